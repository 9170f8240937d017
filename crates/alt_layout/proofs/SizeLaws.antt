-- How many bytes the entries of segments have, where files change.
use Rattle.std.proofs.Common.{◌≡◌, ◌+◌, inl, inr, ℕ, List, [], ◌∷◌, ◌++◌, length, Option, refl, sym, ap, subst, ◌∙◌, arith, length-append}
use Rattle.std.specs.Int.{w64, to_be_bytes}
use Rattle.alt_gatelog.specs.Log.{IsLog}
use Rattle.alt_gatelog.specs.declared.form.Form.{Form}
use Rattle.alt_gatelog.specs.declared.form.Form.TheVariants.{One, Two}
use Rattle.alt_gatelog.proofs.OneList.{one_form, one_list}
use Rattle.alt_manifest.specs.Versions.{IsIn}
use Rattle.alt_writes.specs.Bytes.{changes_bytes, group_bytes, write_bytes, writes_bytes}
use Rattle.alt_writes.specs.Writes.{Write}
use Rattle.alt_layout.specs.Entries.{AreEntries, IsEntry}
use Rattle.alt_layout.specs.Files.{AreSegments, Image, IsSegment, all_of}
use Rattle.alt_layout.specs.Sizes.{SegmentsAreSized, LogIsSized, bytes_in}

-- the bytes of several entries, and of one more
pub bytes_in-push : (entries : List (List ℕ)) (entry : List ℕ)
    → bytes_in (entries ++ entry ∷ []) ≡ bytes_in entries + length entry
bytes_in-push [] entry = omega arith
bytes_in-push (e ∷ entries) entry =
    let rest = bytes_in-push entries entry in omega (arith, rest)

-- a log has one number of them
pub one_size : (m n : ℕ) (file : Option (List ℕ)) → LogIsSized m file → LogIsSized n file → m ≡ n
one_size m n file a b =
    let form : a.form ≡ b.form = one_form a.form b.form file a.entries b.entries a.log b.log in
    a.is ∙ ap bytes_in (one_list b.form file a.entries b.entries
    (subst (λ (x : Form). IsLog x a.entries file) form a.log) b.log) ∙ sym b.is

-- and so have segments
pub one_size_of : (image : Image) (fs : List ℕ) (m n : ℕ) → SegmentsAreSized image fs m
    → SegmentsAreSized image fs n → m ≡ n
one_size_of image [] m n a b = a ∙ sym b
one_size_of image (f ∷ fs) m n a b =
    let first = one_size a.0 b.0 (image f) a.2 b.2 in
    let rest = one_size_of image fs a.1 b.1 a.3 b.3 in
    let left = a.4 in let right = b.4 in omega (arith, first, rest, left, right)

-- it stays where the files do
pub sized_on : (image other : Image) (fs : List ℕ) (n : ℕ)
    → ((g : ℕ) → IsIn fs g → other g ≡ image g) → SegmentsAreSized image fs n → SegmentsAreSized other fs n
sized_on image other [] n same are = are
sized_on image other (f ∷ fs) n same are = (
  are.0,
  are.1,
  subst (LogIsSized are.0) (sym (same f (inl refl))) are.2,
  sized_on image other fs are.1 (λ g there. same g (inr there)) are.3,
  are.4,
)

-- the last segment of several
pub sized_last : (image : Image) (firsts : List ℕ) (f n : ℕ) → SegmentsAreSized image (firsts ++ f ∷ []) n
    → (own : ℕ) × (rest : ℕ) × LogIsSized own (image f) × SegmentsAreSized image firsts rest
    × (n ≡ rest + own)
sized_last image [] f n are =
    let none = are.3 in let sum = are.4 in
    (are.0, 0, are.2, refl, omega (arith, none, sum))
sized_last image (g ∷ firsts) f n are =
    let last = sized_last image firsts f are.1 are.3 in
    let sum = are.4 in let more = last.4 in (
      last.0,
      are.0 + last.1,
      last.2,
      (are.0, last.1, are.2, last.3, refl),
      omega (arith, sum, more),
    )

-- and put behind the others
pub sized_with : (image : Image) (firsts : List ℕ) (f rest own : ℕ) → SegmentsAreSized image firsts rest
    → LogIsSized own (image f) → SegmentsAreSized image (firsts ++ f ∷ []) (rest + own)
sized_with image [] f rest own are last =
    (own, 0, last, refl, (let none = are in omega (arith, none)))
sized_with image (g ∷ firsts) f rest own are last =
    let sum = are.4 in (
      are.0,
      are.1 + own,
      are.2,
      sized_with image firsts f are.1 own are.3 last,
      omega (arith, sum),
    )

-- ---- none

-- an entry that holds writes has bytes
entry_some : (form : Form) (entry : List ℕ) (ws : List Write) → IsEntry form entry ws
    → length entry ≡ 0 → ⊥
unfolding write_bytes group_bytes
entry_some One entry [] h none = h
entry_some One entry (w ∷ []) h none =
    let size : length entry
    ≡ 8 + length (to_be_bytes w64 (length w.changes) ++ changes_bytes w.changes) =
    ap length h.0 ∙ length-append (to_be_bytes w64 w.number)
    (to_be_bytes w64 (length w.changes) ++ changes_bytes w.changes) in omega (arith, size, none)
entry_some One entry (w ∷ v ∷ ws) h none = h
entry_some Two entry ws h none =
    let size : length entry ≡ 8 + length (writes_bytes ws) =
    ap length h.0 ∙ length-append (to_be_bytes w64 (length ws)) (writes_bytes ws) in
    omega (arith, size, none)

-- so entries without bytes hold no writes
none_held : (form : Form) (entries : List (List ℕ)) (groups : List (List Write))
    → AreEntries form entries groups → bytes_in entries ≡ 0 → all_of groups ≡ []
none_held form [] [] each none = refl
none_held form [] (g ∷ groups) each none = absurd each
none_held form (e ∷ entries) [] each none = absurd each
none_held form (e ∷ entries) (g ∷ groups) each none =
    absurd (entry_some form e g each.0 (omega (arith, none)))

-- and neither do segments
pub none_in : (image : Image) (fs : List ℕ) (parts : List (List Write)) (n : ℕ)
    → AreSegments image fs parts → SegmentsAreSized image fs n → n ≡ 0 → all_of parts ≡ []
none_in image [] [] n are sized none = refl
none_in image [] (ws ∷ parts) n are sized none = absurd are
none_in image (f ∷ fs) [] n are sized none = absurd are
none_in image (f ∷ fs) (ws ∷ parts) n are sized none =
    let sum = sized.4 in
    let own : IsSegment ws (image f) = are.0 in
    let size : sized.0 ≡ bytes_in own.entries = one_size sized.0 (bytes_in own.entries) (image f)
    sized.2 (record { form = own.form; entries = own.entries; log = own.log; is = refl }) in
    let first : ws ≡ [] = own.holds.are ∙ none_held own.form own.entries own.holds.groups
    own.holds.each (omega (arith, size, sum, none)) in
    let rest : all_of parts ≡ [] = none_in image fs parts sized.1 are.1 sized.3
    (omega (arith, sum, none)) in
    λ i. first i ++ rest i
