-- A file is its body and the digest of it.
use Rattle.std.proofs.Common.{◌≡◌, ◌<◌, Option, Some, None, Result, Ok, Err, IfOk, refl, sym, ap, ◌∙◌, ℕ, ◌+◌, ◌-◌, List, ◌++◌, length, take, drop, arith, length-append}
use Rattle.std.proofs.lemmas.List.{take_at, take_all, length-drop, take-append-drop}
use Rattle.sha2.specs.Sha256.{sha256}
use Rattle.sha2.proofs.Facts256.{length-sha256}
use Rattle.alt_rowblocks.specs.Filtering.{AreFilters}
use Rattle.alt_rowblocks.specs.Format.{Entry, Mark, body, front, rows_of, marks_from, IsFileOf}
use Rattle.alt_rowblocks.specs.Blocks.{IsBody}
use Rattle.alt_rowfile.specs.InHand.{FileAs, ReadsAsRowFile}
use Rattle.alt_disk.specs.Disk.{DiskState, contents, bytes_or_none}
use Rattle.alt_rowfile.specs.Recovery.{HasDigest, NoRowFile}
use Rattle.alt_rowblocks.specs.Summaries.{summary_of}
use Rattle.alt_filter.specs.declared.filter.Filter.{Filter}
use Rattle.alt_rowblocks.specs.declared.summary.Summary.{Summary}

-- a file without its digest is the body of its blocks
pub body_of_file : (bytes : List ℕ) (blocks : List (List Entry)) → IsFileOf blocks bytes
    → IsBody blocks (take (length bytes - 32) bytes)
body_of_file bytes blocks is =
    let size : length (body blocks) ≡ length bytes - 32 =
    omega (
      arith,
      ap length is.is,
      length-append (body blocks) (sha256 (body blocks)),
      length-sha256 (body blocks),
    ) in
    record {
      cut = is.cut;
      rising = is.rising;
      held = is.held;
      place = is.place;
      is = ap (take (length bytes - 32)) is.is
          ∙ take_at (body blocks) (sha256 (body blocks)) (length bytes - 32) size;
    }

-- a body with its digest behind it is a file of its blocks' rows
pub file_of_body : (bytes : List ℕ) (marks : List Mark) (end : ℕ) (summary : Summary)
    (filters : List Filter) (blocks : List (List Entry)) → HasDigest bytes → IsBody blocks
    (take (length bytes - 32) bytes) → marks ≡ marks_from 8 blocks
    → end ≡ length (front blocks) → summary ≡ summary_of (rows_of blocks)
    → AreFilters filters blocks
    → (rows : List Entry) × FileAs bytes marks end summary filters rows
file_of_body bytes marks end summary filters blocks digest is are place told filtered = (
  rows_of blocks,
  record {
    blocks = blocks;
    file = record {
      cut = is.cut;
      rising = is.rising;
      held = is.held;
      place = is.place;
      is = sym (take-append-drop (length bytes - 32) bytes)
          ∙ (λ i. is.is i ++ (sym digest ∙ ap sha256 is.is) i);
    };
    are = refl;
    marks_are = are;
    end_is = place;
    summary_is = told;
    filters_are = filtered;
  },
)

-- where what stands before the digest is no body, the bytes are no row file
pub no_file : (bytes : List ℕ)
    → ((blocks : List (List Entry)) → IsBody blocks (take (length bytes - 32) bytes) → ⊥)
    → NoRowFile bytes
no_file bytes none rows is = none is.blocks (body_of_file bytes is.blocks is.file)

-- a file with bytes in it is there
there_is : (file : Option (List ℕ)) → 0 < length (bytes_or_none file)
    → file ≡ Some (bytes_or_none file)
there_is None some = absurd (omega (arith, some))
there_is (Some bytes) some = refl

-- what a file is stays while it reads the same
pub reads_after : {summary : Summary} {filters : List Filter} (s t : DiskState) (f : ℕ)
    (marks : List Mark) (end : ℕ) (rows : List Entry)
    → t.file f ≡ s.file f → FileAs (contents s f) marks end summary filters rows
    → ReadsAsRowFile t f marks end summary filters rows
reads_after s t f marks end rows same is =
    let size : 0 < length (contents s f) =
    omega (
      arith,
      ap length is.file.is,
      length-append (body is.blocks) (sha256 (body is.blocks)),
      length-sha256 (body is.blocks),
    ) in
    record { bytes = contents s f; there = same ∙ there_is (s.file f) size; as_file = is }

-- the last 32 bytes
module _ (bytes found kept : List ℕ) (at : ℕ) (size : length bytes ≡ at + 32)
    (is_found : found ≡ sha256 (take at bytes)) (is_kept : kept ≡ take 32 (drop at bytes)) where
  before : length bytes - 32 ≡ at
  before = omega (arith, size)

  -- what was kept are the last 32 bytes
  pub kept_last : kept ≡ drop (length bytes - 32) bytes
  kept_last = is_kept ∙ take_all 32 (drop at bytes) (omega (arith, length-drop at bytes, size))
      ∙ ap (λ n. drop n bytes) (sym before)

  -- what was found is the digest of all before them
  pub found_rest : found ≡ sha256 (take (length bytes - 32) bytes)
  found_rest = is_found ∙ ap (λ n. sha256 (take n bytes)) (sym before)

  -- where both are the same the bytes have their digest
  pub digest_agrees : found ≡ kept → HasDigest bytes
  digest_agrees same = sym found_rest ∙ same ∙ kept_last

-- what two together lead to holds of a result that is Ok
pub if_ok_both : {X E : Type 0} (r : Result X E) (P Q R : X → Type 0) → IfOk r P → IfOk r Q
    → ((x : X) → P x → Q x → R x) → IfOk r R
if_ok_both (Ok x) P Q R p q leads = leads x p q
if_ok_both (Err e) P Q R p q leads = tt
