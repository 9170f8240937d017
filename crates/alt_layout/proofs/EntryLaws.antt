-- The writes that entries hold: one list of them, and those of one entry more.
use Rattle.std.proofs.Common.{◌≡◌, ℕ, List, [], ◌∷◌, ◌++◌, Option, refl, sym, ap, subst, ◌∙◌, append_assoc}
use Rattle.std.proofs.lemmas.List.{append-nil}
use Rattle.std.specs.List.{flat_map}
use Rattle.alt_gatelog.specs.Log.{IsLog}
use Rattle.alt_gatelog.specs.declared.form.Form.{Form}
use Rattle.alt_gatelog.specs.declared.form.Form.TheVariants.{One, Two}
use Rattle.alt_gatelog.proofs.OneList.{one_form, one_list}
use Rattle.alt_writes.specs.Bytes.{AllHeld}
use Rattle.alt_writes.specs.Writes.{Write}
use Rattle.alt_writes.proofs.OneWrite.{one_group, one_write}
use Rattle.alt_layout.specs.Entries.{AreEntries, HoldWrites, IsEntry}
use Rattle.alt_layout.specs.Files.{IsSegment}

-- ---- one list

-- an entry holds one list of writes
pub one_entry : (form : Form) (entry : List ℕ) (a b : List Write) → IsEntry form entry a
    → IsEntry form entry b → a ≡ b
one_entry One entry [] b h k = absurd h
one_entry One entry (v ∷ u ∷ a) b h k = absurd h
one_entry One entry (v ∷ []) [] h k = absurd k
one_entry One entry (v ∷ []) (w ∷ u ∷ b) h k = absurd k
one_entry One entry (v ∷ []) (w ∷ []) h k =
    ap (λ x. x ∷ []) (one_write v w h.1 k.1 (sym h.0 ∙ k.0))
one_entry Two entry a b h k = one_group a b h.1 k.1 (sym h.0 ∙ k.0)

-- and entries do
one_groups : (form : Form) (entries : List (List ℕ)) (a b : List (List Write))
    → AreEntries form entries a → AreEntries form entries b → a ≡ b
one_groups form [] [] [] h k = refl
one_groups form [] [] (w ∷ b) h k = absurd k
one_groups form [] (v ∷ a) b h k = absurd h
one_groups form (e ∷ entries) [] b h k = absurd h
one_groups form (e ∷ entries) (v ∷ a) [] h k = absurd k
one_groups form (e ∷ entries) (v ∷ a) (w ∷ b) h k =
    let first = one_entry form e v w h.0 k.0 in
    let rest = one_groups form entries a b h.1 k.1 in
    λ i. first i ∷ rest i

-- and so does a segment
pub one_segment : (file : Option (List ℕ)) (a b : List Write) → IsSegment a file
    → IsSegment b file → a ≡ b
one_segment file a b h k =
    let form : h.form ≡ k.form = one_form h.form k.form file h.entries k.entries h.log k.log in
    let entries : h.entries ≡ k.entries = one_list k.form file h.entries k.entries
    (subst (λ (x : Form). IsLog x h.entries file) form h.log) k.log in
    let groups = one_groups k.form k.entries h.holds.groups k.holds.groups
    (subst (λ (x : List (List ℕ)). AreEntries k.form x h.holds.groups) entries
    (subst (λ (x : Form). AreEntries x h.entries h.holds.groups) form h.holds.each))
    k.holds.each in
    h.holds.are ∙ ap (flat_map (λ group. group)) groups ∙ sym k.holds.are

-- ---- one entry more

-- no entries hold no writes
pub holds_none : (form : Form) → HoldWrites form [] []
holds_none form = record { groups = []; each = tt; are = refl }

-- an entry that holds writes holds such as its bytes can tell
pub entry_held : (form : Form) (entry : List ℕ) (ws : List Write) → IsEntry form entry ws → AllHeld ws
entry_held One entry [] h = absurd h
entry_held One entry (w ∷ []) h = (h.1, tt)
entry_held One entry (w ∷ v ∷ ws) h = absurd h
entry_held Two entry ws h = h.1.writes

-- an entry more
entries_push : (form : Form) (entries : List (List ℕ)) (groups : List (List Write))
    (entry : List ℕ) (more : List Write) → AreEntries form entries groups
    → IsEntry form entry more → AreEntries form (entries ++ entry ∷ []) (groups ++ more ∷ [])
entries_push form [] [] entry more each is = (is, tt)
entries_push form [] (g ∷ groups) entry more each is = absurd each
entries_push form (e ∷ entries) [] entry more each is = absurd each
entries_push form (e ∷ entries) (g ∷ groups) entry more each is =
    (each.0, entries_push form entries groups entry more each.1 is)

-- holds its writes behind those of the others
pub holds_push : (form : Form) (entries : List (List ℕ)) (ws : List Write) (entry : List ℕ)
    (more : List Write) → HoldWrites form entries ws → IsEntry form entry more
    → HoldWrites form (entries ++ entry ∷ []) (ws ++ more)
holds_push form entries ws entry more holds is = record {
  groups = holds.groups ++ more ∷ [];
  each = entries_push form entries holds.groups entry more holds.each is;
  are = ap (λ x. x ++ more) holds.are ∙ sym (flat holds.groups);
}
  where
    flat : (groups : List (List Write)) → flat_map (λ group. group) (groups ++ more ∷ [])
        ≡ flat_map (λ group. group) groups ++ more
    flat [] = append-nil more
    flat (g ∷ groups) = ap (λ x. g ++ x) (flat groups)
        ∙ sym (append_assoc g (flat_map (λ group. group) groups) more)
