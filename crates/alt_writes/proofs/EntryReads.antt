-- Reading an entry writes it back: a write, an entry that is one, and one that is a group.
use Rattle.std.proofs.Common.{◌≡◌, ◌<◌, ◌≤◌, ◌+◌, ◌-◌, ◌^◌, ℕ, List, [], ◌∷◌, ◌++◌, length, sym, ap, refl, subst, suc, ◌∙◌, arith, append_assoc}
use Rattle.std.proofs.lemmas.List.{append-nil}
use Rattle.std.specs.Int.{w64, to_be_bytes}
use Rattle.alt_base.proofs.Lists.{length-zero}
use Rattle.alt_cells.specs.declared.batch.RowChange.{RowChange}
use Rattle.alt_fields.proofs.Apart.{number-apart}
use Rattle.alt_writes.specs.Writes.{AreRising, Write, past}
use Rattle.alt_writes.specs.Bytes.{changes_bytes, write_bytes, writes_bytes, group_bytes, IsHeldWrite, AllHeld, IsHeldGroup}
use Rattle.alt_writes.specs.Reading.{IsNoGroup, IsNoWrite, NoNumber, NoChanges, NoWrite, NoWrites, write_of, writes_of}
use Rattle.alt_writes.specs.declared.read.LoggedWrite.{LoggedWrite}
use Rattle.alt_writes.proofs.OneWrite.{write_apart, write_pieces, writes_apart}

-- ---- a write

module _ (least : ℕ) (bytes : List ℕ) where
  -- where no number stands there is no write
  pub no_write-number : NoNumber bytes → NoWrite least bytes
  no_write-number non w y h later e =
      let low = h.number in non w.number _ (omega (arith, low)) (e ∙ write_pieces w y)

  module _ (number : ℕ) (counted : List ℕ) (fits : number < 2 ^ 64)
      (is : bytes ≡ to_be_bytes w64 number ++ counted) where
    behind_number : (w : Write) (y : List ℕ) → IsHeldWrite w → bytes ≡ write_bytes w ++ y
        → (number ≡ w.number)
        × (counted ≡ to_be_bytes w64 (length w.changes) ++ (changes_bytes w.changes ++ y))
    behind_number w y h e = let low = h.number in
        number-apart number w.number counted _ fits (omega (arith, low))
        (sym is ∙ e ∙ write_pieces w y)

    pub no_write-early : number < least → NoWrite least bytes
    no_write-early early w y h later e =
        let same = (behind_number w y h e).0 in omega (arith, same)

    pub no_write-last : 2 ^ 62 - 1 ≤ number → NoWrite least bytes
    no_write-last late w y h later e =
        let same = (behind_number w y h e).0 in let low = h.number in omega (arith, same, low)

    pub no_write-count : NoNumber counted → NoWrite least bytes
    no_write-count non w y h later e = non (length w.changes) _ h.count (behind_number w y h e).1

    module _ (count : ℕ) (rest : List ℕ) (small : count < 2 ^ 64)
        (told : counted ≡ to_be_bytes w64 count ++ rest) where
      behind_count : (w : Write) (y : List ℕ) → IsHeldWrite w → bytes ≡ write_bytes w ++ y
          → (count ≡ length w.changes) × (rest ≡ changes_bytes w.changes ++ y)
      behind_count w y h e = number-apart count (length w.changes) rest _ small h.count
          (sym told ∙ (behind_number w y h e).1)

      pub no_write-changes : NoChanges count rest → NoWrite least bytes
      no_write-changes non w y h later e = let parts = behind_count w y h e in
          non w.changes y h.changes (sym parts.0) parts.1

      -- what was read is a write
      pub write_read : (done : List RowChange) (behind : List ℕ) → length done ≡ count
          → rest ≡ changes_bytes done ++ behind
          → bytes ≡ write_bytes (record { number = number; changes = done }) ++ behind
      write_read done behind n read =
          is ∙ ap (λ x. to_be_bytes w64 number ++ x) (told
          ∙ (λ i. to_be_bytes w64 (sym n i) ++ read i))
          ∙ sym (write_pieces (record { number = number; changes = done }) behind)

-- ---- an entry that is one write

-- no write at the front of an entry
pub none_whole : (least : ℕ) (bytes : List ℕ) → NoWrite least bytes → IsNoWrite least bytes
none_whole least bytes non w h later e =
    non w [] h later (e ∙ sym (append-nil (write_bytes w)))

-- bytes behind a write
pub none_behind : (least : ℕ) (bytes : List ℕ) (v : Write) (behind : List ℕ) → IsHeldWrite v
    → bytes ≡ write_bytes v ++ behind → 0 < length behind → IsNoWrite least bytes
none_behind least bytes v behind k is some w h later e =
    let none = (write_apart v w behind [] k h
    (sym is ∙ e ∙ sym (append-nil (write_bytes w)))).1 in
    let zero : length behind ≡ 0 = ap length none in omega (arith, zero)

-- a write with nothing behind it
pub whole : (front bytes behind : List ℕ) → bytes ≡ front ++ behind → length behind ≡ 0
    → bytes ≡ front
whole front bytes behind is none =
    is ∙ ap (λ x. front ++ x) (length-zero behind none) ∙ append-nil front

-- ---- writes

-- a write more
pub writes_push : (ws : List Write) (w : Write) (bytes rest behind : List ℕ)
    → bytes ≡ writes_bytes ws ++ rest → rest ≡ write_bytes w ++ behind
    → bytes ≡ writes_bytes (ws ++ w ∷ []) ++ behind
writes_push [] w bytes rest behind is next =
    is ∙ next ∙ ap (λ x. x ++ behind) (sym (append-nil (write_bytes w)))
writes_push (v ∷ ws) w bytes rest behind is next =
    is ∙ append_assoc (write_bytes v) (writes_bytes ws) rest
    ∙ ap (λ x. write_bytes v ++ x)
    (writes_push ws w (writes_bytes ws ++ rest) rest behind refl next)
    ∙ sym (append_assoc (write_bytes v) (writes_bytes (ws ++ w ∷ [])) behind)

-- those that were read, with one more
pub reads_push : (reads : List LoggedWrite) (read : LoggedWrite)
    → writes_of (reads ++ read ∷ []) ≡ writes_of reads ++ write_of read ∷ []
reads_push [] read = refl
reads_push (r ∷ reads) read = ap (λ ws. write_of r ∷ ws) (reads_push reads read)

-- as many
pub length-reads : (reads : List LoggedWrite) → length (writes_of reads) ≡ length reads
length-reads [] = refl
length-reads (r ∷ reads) = ap (λ n. suc n) (length-reads reads)

-- the write behind those that were read
pub record NextWrite (least : ℕ) (rest : List ℕ) : Type 0 where
  pub write : Write
  pub more : List ℕ
  pub held : IsHeldWrite write
  pub later : least ≤ write.number
  pub is : rest ≡ write_bytes write ++ more

-- where there are more writes than were read
pub next_write : (least : ℕ) (done ws : List Write) (rest y : List ℕ) → AllHeld done
    → AllHeld ws → AreRising least ws → length done < length ws
    → writes_bytes done ++ rest ≡ writes_bytes ws ++ y → NextWrite (past least done) rest
next_write least [] [] rest y h k rising less e = absurd (omega arith)
next_write least [] (b ∷ ws) rest y h k rising less e = record {
  write = b;
  more = writes_bytes ws ++ y;
  held = k.0;
  later = rising.0;
  is = e ∙ append_assoc (write_bytes b) (writes_bytes ws) y;
}
next_write least (a ∷ done) [] rest y h k rising less e = absurd (omega arith)
next_write least (a ∷ done) (b ∷ ws) rest y h k rising less e =
    let first = write_apart a b (writes_bytes done ++ rest) (writes_bytes ws ++ y) h.0 k.0
    (sym (append_assoc (write_bytes a) (writes_bytes done) rest) ∙ e
    ∙ append_assoc (write_bytes b) (writes_bytes ws) y) in
    next_write (a.number + 1) done ws rest y h.1 k.1
    (subst (λ (w : Write). AreRising (w.number + 1) ws) (sym first.0) rising.1)
    (omega (arith, less)) first.1

-- no write behind those that were read
pub no_writes : (least count : ℕ) (done : List Write) (bytes rest : List ℕ) → length done < count
    → AllHeld done → bytes ≡ writes_bytes done ++ rest → NoWrite (past least done) rest
    → NoWrites least count bytes
no_writes least count done bytes rest few held is non ws y h rising n e =
    let next = next_write least done ws rest y held h rising (omega (arith, n, few))
    (sym is ∙ e) in
    non next.write next.more next.held next.later next.is

-- ---- an entry that is a group

module _ (least : ℕ) (bytes : List ℕ) where
  -- where no number stands there is no group
  pub no_group-count : NoNumber bytes → IsNoGroup least bytes
  unfolding group_bytes
  no_group-count non ws h rising e = non (length ws) (writes_bytes ws) h.count e

  module _ (count : ℕ) (rest : List ℕ) (small : count < 2 ^ 64)
      (is : bytes ≡ to_be_bytes w64 count ++ rest) where
    behind_groups : (ws : List Write) → IsHeldGroup ws → bytes ≡ group_bytes ws
        → (count ≡ length ws) × (rest ≡ writes_bytes ws)
    unfolding group_bytes
    behind_groups ws h e = number-apart count (length ws) rest (writes_bytes ws) small h.count
        (sym is ∙ e)

    pub no_group-empty : count ≡ 0 → IsNoGroup least bytes
    no_group-empty zero ws h rising e =
        let same = (behind_groups ws h e).0 in let some = h.some in omega (arith, same, some, zero)

    pub no_group-writes : NoWrites least count rest → IsNoGroup least bytes
    no_group-writes non ws h rising e = let parts = behind_groups ws h e in
        non ws [] h.writes rising (sym parts.0)
        (parts.1 ∙ sym (append-nil (writes_bytes ws)))

    pub no_group-behind : (done : List Write) (behind : List ℕ) → length done ≡ count
        → AllHeld done → rest ≡ writes_bytes done ++ behind → 0 < length behind
        → IsNoGroup least bytes
    no_group-behind done behind n held read some ws h rising e =
        let parts = behind_groups ws h e in
        let none = (writes_apart done ws behind [] held h.writes (n ∙ parts.0)
        (sym read ∙ parts.1 ∙ sym (append-nil (writes_bytes ws)))).1 in
        let zero : length behind ≡ 0 = ap length none in omega (arith, zero, some)

    -- what was read is a group
    pub group_read : (done : List Write) (behind : List ℕ) → length done ≡ count
        → rest ≡ writes_bytes done ++ behind → length behind ≡ 0 → bytes ≡ group_bytes done
    unfolding group_bytes
    group_read done behind n read none =
        is ∙ (λ i. to_be_bytes w64 (sym n i)
        ++ whole (writes_bytes done) rest behind read none i)
