-- The parts of a file before its digest.
use Rattle.std.proofs.Common.{◌≡◌, ◌≢◌, refl, sym, ap, ◌∙◌, ℕ, ◌+◌, ◌-◌, ◌<◌, ◌≤◌, ◌^◌, List, [], ◌++◌, length, take, drop, arith, append_assoc, length-append}
use Rattle.std.specs.Prelude.{Option, Some, None, IfSome, IfNone}
use Rattle.std.specs.Int.{w64, to_be_bytes}
use Rattle.std.specs.List.{flat_map}
use Rattle.std.proofs.lemmas.List.{take_at, drop_at, take-append-drop, take-take, take_all, length-take-le, length-drop}
use Rattle.alt_fields.proofs.Apart.{number-apart}
use Rattle.alt_rowblocks.specs.Format.{Entry, Mark, row_file_header, front, rows_of, marks_from, mark_bytes, tail_bytes, body}
use Rattle.alt_rowblocks.specs.Blocks.{AreBlocksOf, IsFoundAs, IsBody}
use Rattle.alt_filter.specs.declared.filter.Filter.{Filter}
use Rattle.alt_rowblocks.specs.declared.summary.Summary.{Summary}
use Rattle.alt_rowblocks.proofs.OneFile.{one_front}

regroup : (f a b c d : List ℕ) → f ++ ((a ++ b) ++ (c ++ d)) ≡ (f ++ ((a ++ b) ++ c)) ++ d
regroup f a b c d = simp append_assoc

-- its last eight bytes tell the place of the index
pub body_last : (blocks : List (List Entry))
    → drop (length (body blocks) - 8) (body blocks) ≡ to_be_bytes w64 (length (front blocks))
unfolding tail_bytes
body_last blocks =
    let marks = marks_from 8 blocks in
    let before =
    front blocks
    ++ ((to_be_bytes w64 (length marks) ++ flat_map mark_bytes marks)
    ++ to_be_bytes w64 (length (rows_of blocks))) in
    let last = to_be_bytes w64 (length (front blocks)) in
    let whole : body blocks ≡ before ++ last =
    regroup (front blocks) (to_be_bytes w64 (length marks)) (flat_map mark_bytes marks)
    (to_be_bytes w64 (length (rows_of blocks))) last in
    let size : length (before ++ last) - 8 ≡ length before =
    omega (arith, length-append before last) in
    ap (λ (l : List ℕ). drop (length l - 8) l) whole ∙ ap (λ (n : ℕ). drop n (before ++ last)) size
    ∙ drop_at before last (length before) refl

-- what stands before the digest is at least 24 bytes longer than the header and the blocks
pub body_long : (blocks : List (List Entry)) → length (front blocks) + 24 ≤ length (body blocks)
unfolding tail_bytes
body_long blocks =
    let marks = marks_from 8 blocks in
    omega (
      arith,
      length-append (front blocks)
          ((to_be_bytes w64 (length marks) ++ flat_map mark_bytes marks)
          ++ (to_be_bytes w64 (length (rows_of blocks))
          ++ to_be_bytes w64 (length (front blocks)))),
      length-append (to_be_bytes w64 (length marks) ++ flat_map mark_bytes marks)
          (to_be_bytes w64 (length (rows_of blocks)) ++ to_be_bytes w64 (length (front blocks))),
      length-append (to_be_bytes w64 (length marks)) (flat_map mark_bytes marks),
    )

-- the header and the blocks have at least eight bytes
pub front_long : (blocks : List (List Entry)) → 8 ≤ length (front blocks)
unfolding row_file_header
front_long blocks = omega arith

-- what stands before the digest begins with the header
pub body_header : (blocks : List (List Entry)) → take 8 (body blocks) ≡ row_file_header
unfolding row_file_header
body_header blocks = refl

-- ---- no body

-- fewer than 32 bytes are no body
pub too_short : (bytes : List ℕ) → length bytes < 32 → (blocks : List (List Entry))
    → IsBody blocks bytes → ⊥
too_short bytes short blocks is =
    omega (arith, short, ap length is.is, body_long blocks, front_long blocks)

-- nor are bytes that begin otherwise
pub other_header : (bytes head : List ℕ) → head ≡ take 8 bytes → head ≢ row_file_header
    → (blocks : List (List Entry)) → IsBody blocks bytes → ⊥
other_header bytes head same other blocks is = other (same ∙ ap (take 8) is.is ∙ body_header blocks)

-- the last eight bytes of a body tell where its index stands
pub place_of : (bytes : List ℕ) (place : ℕ) → place < 2 ^ 64
    → drop (length bytes - 8) bytes ≡ to_be_bytes w64 place → (blocks : List (List Entry))
    → IsBody blocks bytes → place ≡ length (front blocks)
place_of bytes place fits last blocks is =
    let here : to_be_bytes w64 place ≡ to_be_bytes w64 (length (front blocks)) = sym last
    ∙ ap (λ (l : List ℕ). drop (length l - 8) l) is.is ∙ body_last blocks in
    (number-apart place (length (front blocks)) [] [] fits is.place
    (ap (λ (l : List ℕ). l ++ []) here)).0

-- bytes whose last eight tell a place outside them are no body
pub other_place : (bytes : List ℕ) (place : ℕ) → place < 2 ^ 64
    → drop (length bytes - 8) bytes ≡ to_be_bytes w64 place → (8 ≤ place → place ≤ length bytes → ⊥)
    → (blocks : List (List Entry)) → IsBody blocks bytes → ⊥
other_place bytes place fits last outside blocks is =
    let here = place_of bytes place fits last blocks is in
    outside (omega (arith, here, front_long blocks))
    (omega (arith, here, body_long blocks, ap length is.is))

-- ---- its parts

-- a body is cut at its index: before it stand the header and the blocks, and from there on the tail
pub body_parts : (bytes : List ℕ) (end : ℕ) → end < 2 ^ 64
    → drop (length bytes - 8) bytes ≡ to_be_bytes w64 end → (blocks : List (List Entry))
    → IsBody blocks bytes
    → AreBlocksOf blocks (drop 8 (take end bytes))
    × (drop end bytes ≡ tail_bytes (marks_from 8 blocks) (length (rows_of blocks)) end)
unfolding row_file_header
body_parts bytes end fits last blocks is =
    let place = place_of bytes end fits last blocks is in
    let tail = tail_bytes (marks_from 8 blocks) (length (rows_of blocks)) (length (front blocks)) in
    let first : take end bytes ≡ front blocks = ap (take end) is.is
    ∙ take_at (front blocks) tail end (sym place) in (
      record { cut = is.cut; rising = is.rising; held = is.held; is = ap (drop 8) first },
      ap (drop end) is.is ∙ drop_at (front blocks) tail end (sym place)
          ∙ ap (tail_bytes (marks_from 8 blocks) (length (rows_of blocks))) (sym place),
    )

-- bytes that have the header, blocks and the tail of these are the body of these blocks
pub body_whole : {summary : Summary} {filters : List Filter} (bytes made : List ℕ) (end rows : ℕ)
    (marks : List Mark)
    (blocks : List (List Entry)) → 8 ≤ end → end ≤ length bytes → end < 2 ^ 64
    → take 8 bytes ≡ row_file_header → AreBlocksOf blocks (drop 8 (take end bytes))
    → IsFoundAs marks rows summary filters blocks → made ≡ tail_bytes marks rows end → made ≡ drop
    end bytes
    → IsBody blocks bytes × (marks ≡ marks_from 8 blocks) × (end ≡ length (front blocks))
body_whole bytes made end rows marks blocks low high fits head are found tail same =
    let eight : take 8 (take end bytes) ≡ take 8 bytes = take-take 8 end bytes low in
    let first : take end bytes ≡ front blocks = sym (take-append-drop 8 (take end bytes))
    ∙ (λ i. (eight ∙ head) i ++ are.is i) in
    let place : end ≡ length (front blocks) = sym (length-take-le end bytes high)
    ∙ ap length first in
    let back : drop end bytes
    ≡ tail_bytes (marks_from 8 blocks) (length (rows_of blocks)) (length (front blocks)) =
    sym same ∙ tail ∙ (λ i. tail_bytes (found.marks_are i) (found.rows_is i) (place i)) in (
      record {
        cut = are.cut;
        rising = are.rising;
        held = are.held;
        place =
            omega (arith, place, fits);
        is = sym (take-append-drop end bytes)
            ∙ (λ i. first i ++ back i);
      },
      found.marks_are,
      place,
    )

-- bytes whose tail isn't that of their blocks are no body
pub other_tail : {summary : Summary} {filters : List Filter} (bytes made : List ℕ) (end rows : ℕ)
    (marks : List Mark)
    (found : List (List Entry)) → end < 2 ^ 64 → drop (length bytes - 8) bytes ≡ to_be_bytes w64 end
    → AreBlocksOf found (drop 8 (take end bytes))
    → IsFoundAs marks rows summary filters found → made ≡ tail_bytes marks rows end → made ≢ drop
    end bytes
    → (blocks : List (List Entry)) → IsBody blocks bytes → ⊥
other_tail bytes made end rows marks found fits last are found_as tail other blocks is =
    let parts = body_parts bytes end fits last blocks is in
    let same : found ≡ blocks =
    one_front found blocks are.held parts.0.held (sym are.is ∙ parts.0.is) in
    other (tail ∙ (λ i. tail_bytes (found_as.marks_are i) (found_as.rows_is i) end)
    ∙ ap (λ (b : List (List Entry)). tail_bytes (marks_from 8 b) (length (rows_of b)) end) same
    ∙ sym parts.1)

-- the place that is read of the last eight bytes is the number that they hold
pub last_eight : (bytes last : List ℕ) (place : ℕ) → 8 ≤ length bytes
    → last ≡ drop (length bytes - 8) bytes → take 8 last ≡ to_be_bytes w64 place
    → drop (length bytes - 8) bytes ≡ to_be_bytes w64 place
last_eight bytes last place long is stands =
    sym is ∙ sym
    (take_all 8 last (omega (arith, ap length is, length-drop (length bytes - 8) bytes, long)))
    ∙ stands

-- ---- options

-- what one leads to holds of an option's value
pub if_some_weaker : {X : Type 0} (o : Option X) (P Q : X → Type 0) → ((x : X) → P x → Q x)
    → IfSome o P → IfSome o Q
if_some_weaker (Some x) P Q leads p = leads x p
if_some_weaker None P Q leads p = tt

-- what one leads to holds where an option has none
pub if_none_weaker : {X : Type 0} (o : Option X) (P Q : Type 0) → (P → Q) → IfNone o P → IfNone o Q
if_none_weaker (Some x) P Q leads p = tt
if_none_weaker None P Q leads p = leads p
