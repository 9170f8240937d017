-- The changes that a stream keeps are found by the keys of their rows as before, at every key but those that are left over.
use Rattle.std.proofs.Common.{◌≡◌, ◌<◌, refl, sym, subst, ◌∙◌, ℕ, Bool, true, false, cond, List, [], ◌∷◌, map, Some, All, arith}
use Rattle.std.specs.FinMap as finite
use Rattle.std.specs.FinMap.Entries.{find}
use Rattle.std.specs.Ordering.{eq_by_cmp}
use Rattle.std.specs.Prelude.{if◌then◌else◌}
use Rattle.alt_cells.specs.Keys.{key_cmp}
use Rattle.alt_changes.specs.ChangeRows.{row_key}
use Rattle.alt_machine.specs.State.{Change}
use Rattle.alt_machine.specs.Trimming.{is_past, kept, trimmed_at}
use Rattle.alt_machine.proofs.Trimming.{Rise, Above, rise_first, rise_rest, kept_all, kept_rise, trimmed_least}
use Rattle.alt_opening.specs.StateRows.{IsLeftover, keyed_changes}
use Rattle.alt_opening.proofs.StreamKeys.{IsSmall, get_keyed, keyed}
use Rattle.std.proofs.lemmas.List.Elements.{All-head}
use Rattle.alt_cells.proofs.SameKeys.{one_key}

-- a key that isn't left over finds among those that are kept what it found among all
find_kept : (moment before : ℕ) (key : List ℕ) (cs : List Change) → Rise cs → Above before cs
    → (IsLeftover (trimmed_at moment before cs) key → ⊥)
    → find key_cmp key (map keyed (kept moment cs)) ≡ find key_cmp key (map keyed cs)
find_kept moment before key [] rise above counts = refl
find_kept moment before key (c ∷ cs) rise above counts = by
    (find_kept moment c.number key cs (rise_rest c cs rise) (rise_first c cs rise))
    (is_past moment c) refl
  where
    by : ((IsLeftover (trimmed_at moment c.number cs) key → ⊥)
        → find key_cmp key (map keyed (kept moment cs)) ≡ find key_cmp key (map keyed cs))
        → (b : Bool) → is_past moment c ≡ b
        → find key_cmp key (map keyed (if b then kept moment cs else c ∷ cs))
        ≡ find key_cmp key (map keyed (c ∷ cs))
    by rest true e = rest later ∙ sym (passed (eq_by_cmp key_cmp key (row_key c.number)) refl)
      where
        later : IsLeftover (trimmed_at moment c.number cs) key → ⊥
        later left = counts (subst (λ (b : Bool). IsLeftover
            (if b then trimmed_at moment c.number cs else before) key) (sym e) left)

        passed : (b : Bool) → eq_by_cmp key_cmp key (row_key c.number) ≡ b
            → cond b (Some c) (find key_cmp key (map keyed cs)) ≡ find key_cmp key (map keyed cs)
        passed true same =
            let low = All-head (λ (x : Change). before < x.number) c cs above in
            absurd (later (
              c.number,
              omega (arith, low),
              trimmed_least moment c.number cs (rise_rest c cs rise) (rise_first c cs rise),
              one_key key (row_key c.number) same,
            ))
        passed false differs = refl
    by rest false e = refl

-- and so does the map
pub get_kept : (moment before : ℕ) (key : List ℕ) (cs : List Change) → All IsSmall cs → Rise cs
    → Above before cs → (IsLeftover (trimmed_at moment before cs) key → ⊥)
    → finite.get (keyed_changes (kept moment cs)) key ≡ finite.get (keyed_changes cs) key
get_kept moment before key cs small rise above counts =
    get_keyed (kept moment cs) (kept_all IsSmall moment cs small) (kept_rise moment cs rise) key
    ∙ find_kept moment before key cs rise above counts
    ∙ sym (get_keyed cs small rise key)
