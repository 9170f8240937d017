-- Bytes are those of one write at most, and of one group of writes.
use Rattle.std.proofs.Common.{◌≡◌, ◌<◌, ◌^◌, ℕ, Bool, true, false, List, [], ◌∷◌, ◌++◌, length, drop, Option, Some, None, refl, sym, ap, ◌∙◌, arith, append_assoc}
use Rattle.std.proofs.lemmas.List.{append-nil}
use Rattle.std.specs.Int.{w32, w64, to_be_bytes}
use Rattle.alt_cells.specs.declared.batch.RowChange.{RowChange}
use Rattle.alt_fields.specs.Field.{field}
use Rattle.alt_fields.proofs.Apart.{number-apart, field-apart, number_four-apart}
use Rattle.alt_writes.specs.Writes.{Write}
use Rattle.alt_writes.specs.Bytes.{clear_byte, value_bytes, columns_bytes, change_bytes, changes_bytes, write_bytes, writes_bytes, group_bytes, IsShortValue, AreShortCells, IsHeldChange, AreHeldChanges, IsHeldWrite, AllHeld, IsHeldGroup}

-- two values, or none
pub value_apart : (a b : Option (List ℕ)) (x y : List ℕ) → IsShortValue a → IsShortValue b
    → value_bytes a ++ x ≡ value_bytes b ++ y → (a ≡ b) × (x ≡ y)
value_apart None None x y h k e = (refl, ap (drop 1) e)
value_apart None (Some b) x y h k e = let no : 0 ∷ x ≡ 1 ∷ (field b ++ y) = e in cc no
value_apart (Some a) None x y h k e = let no : 1 ∷ (field a ++ x) ≡ 0 ∷ y = e in cc no
value_apart (Some a) (Some b) x y h k e = let parts = field-apart a b x y h k (ap (drop 1) e) in
    (ap (λ v. Some v) parts.0, parts.1)

-- two lists of columns, of one length
pub cells_apart : (es fs : List (List ℕ × Option (List ℕ))) (x y : List ℕ) → AreShortCells es
    → AreShortCells fs → length es ≡ length fs → columns_bytes es ++ x ≡ columns_bytes fs ++ y
    → (es ≡ fs) × (x ≡ y)
cells_apart [] [] x y h k n e = (refl, e)
cells_apart [] (b ∷ fs) x y h k n e = absurd (omega arith)
cells_apart (a ∷ es) [] x y h k n e = absurd (omega arith)
cells_apart (a ∷ es) (b ∷ fs) x y h k n e =
    let front = field-apart a.0 b.0 (value_bytes a.1 ++ (columns_bytes es ++ x))
    (value_bytes b.1 ++ (columns_bytes fs ++ y)) h.0 k.0
    (sym (pieces a es x) ∙ e ∙ pieces b fs y) in
    let value = value_apart a.1 b.1 (columns_bytes es ++ x) (columns_bytes fs ++ y) h.1 k.1 front.1 in
    let rest = cells_apart es fs x y h.2 k.2 (omega arith) value.1 in
    ((λ i. (front.0 i, value.0 i) ∷ rest.0 i), rest.1)
  where
    pieces : (a : List ℕ × Option (List ℕ)) (es : List (List ℕ × Option (List ℕ))) (x : List ℕ)
        → ((field a.0 ++ value_bytes a.1) ++ columns_bytes es) ++ x
        ≡ field a.0 ++ (value_bytes a.1 ++ (columns_bytes es ++ x))
    pieces a es x = append_assoc (field a.0 ++ value_bytes a.1) (columns_bytes es) x
        ∙ append_assoc (field a.0) (value_bytes a.1) (columns_bytes es ++ x)

-- two bytes that say whether a row is cleared
pub clear_apart : (a b : Bool) (x y : List ℕ) → clear_byte a ∷ x ≡ clear_byte b ∷ y
    → (a ≡ b) × (x ≡ y)
clear_apart true true x y e = (refl, ap (drop 1) e)
clear_apart false false x y e = (refl, ap (drop 1) e)
clear_apart true false x y e = let no : 1 ∷ x ≡ 0 ∷ y = e in cc no
clear_apart false true x y e = let no : 0 ∷ x ≡ 1 ∷ y = e in cc no

-- the parts of a change, with what stands behind it
pub change_pieces : (c : RowChange) (x : List ℕ) → change_bytes c ++ x
    ≡ to_be_bytes w32 c.family ++ (field c.key
    ++ (clear_byte c.clear ∷ (to_be_bytes w64 (length c.cells) ++ (columns_bytes c.cells ++ x))))
unfolding change_bytes
change_pieces c x =
    append_assoc (to_be_bytes w32 c.family) (field c.key
    ++ clear_byte c.clear ∷ (to_be_bytes w64 (length c.cells) ++ columns_bytes c.cells)) x
    ∙ ap (λ s. to_be_bytes w32 c.family ++ s)
    (append_assoc (field c.key) (clear_byte
    c.clear ∷ (to_be_bytes w64 (length c.cells) ++ columns_bytes c.cells)) x
    ∙ ap (λ s. field c.key ++ (clear_byte c.clear ∷ s))
    (append_assoc (to_be_bytes w64 (length c.cells)) (columns_bytes c.cells) x))

-- two changes
pub change_apart : (c d : RowChange) (x y : List ℕ) → IsHeldChange c → IsHeldChange d
    → change_bytes c ++ x ≡ change_bytes d ++ y → (c ≡ d) × (x ≡ y)
change_apart c d x y h k e =
    let family = number_four-apart c.family d.family _ _ h.family k.family
    (sym (change_pieces c x) ∙ e ∙ change_pieces d y) in
    let key = field-apart c.key d.key _ _ h.key k.key family.1 in
    let clear = clear_apart c.clear d.clear _ _ key.1 in
    let count = number-apart (length c.cells) (length d.cells) _ _ h.count k.count clear.1 in
    let cells = cells_apart c.cells d.cells x y h.cells k.cells count.0 count.1 in (
      (λ i. record { family = family.0 i; key = key.0 i; clear = clear.0 i; cells = cells.0 i }),
      cells.1,
    )

-- two lists of changes, of one length
pub changes_apart : (cs ds : List RowChange) (x y : List ℕ) → AreHeldChanges cs → AreHeldChanges ds
    → length cs ≡ length ds → changes_bytes cs ++ x ≡ changes_bytes ds ++ y → (cs ≡ ds) × (x ≡ y)
changes_apart [] [] x y h k n e = (refl, e)
changes_apart [] (d ∷ ds) x y h k n e = absurd (omega arith)
changes_apart (c ∷ cs) [] x y h k n e = absurd (omega arith)
changes_apart (c ∷ cs) (d ∷ ds) x y h k n e =
    let first = change_apart c d (changes_bytes cs ++ x) (changes_bytes ds ++ y) h.0 k.0
    (sym (append_assoc (change_bytes c) (changes_bytes cs) x) ∙ e
    ∙ append_assoc (change_bytes d) (changes_bytes ds) y) in
    let rest = changes_apart cs ds x y h.1 k.1 (omega arith) first.1 in
    ((λ i. first.0 i ∷ rest.0 i), rest.1)

-- the parts of a write, with what stands behind it
pub write_pieces : (w : Write) (x : List ℕ) → write_bytes w ++ x
    ≡ to_be_bytes w64 w.number
    ++ (to_be_bytes w64 (length w.changes) ++ (changes_bytes w.changes ++ x))
unfolding write_bytes
write_pieces w x =
    append_assoc (to_be_bytes w64 w.number)
    (to_be_bytes w64 (length w.changes) ++ changes_bytes w.changes) x
    ∙ ap (λ s. to_be_bytes w64 w.number ++ s)
    (append_assoc (to_be_bytes w64 (length w.changes)) (changes_bytes w.changes) x)

-- two writes
pub write_apart : (v w : Write) (x y : List ℕ) → IsHeldWrite v → IsHeldWrite w
    → write_bytes v ++ x ≡ write_bytes w ++ y → (v ≡ w) × (x ≡ y)
write_apart v w x y h k e =
    let number = number-apart v.number w.number _ _ (fits v h) (fits w k)
    (sym (write_pieces v x) ∙ e ∙ write_pieces w y) in
    let count = number-apart (length v.changes) (length w.changes) (changes_bytes v.changes ++ x)
    (changes_bytes w.changes ++ y) h.count k.count number.1 in
    let changes = changes_apart v.changes w.changes x y h.changes k.changes count.0 count.1 in
    ((λ i. record { number = number.0 i; changes = changes.0 i }), changes.1)
  where
    fits : (u : Write) → IsHeldWrite u → u.number < 2 ^ 64
    fits u held = let low = held.number in omega (arith, low)

-- No two writes have the same bytes.
pub one_write : (v w : Write) → IsHeldWrite v → IsHeldWrite w → write_bytes v ≡ write_bytes w
    → v ≡ w
one_write v w h k e = (write_apart v w [] [] h k
    (append-nil (write_bytes v) ∙ e ∙ sym (append-nil (write_bytes w)))).0

-- two lists of writes, of one length
pub writes_apart : (vs ws : List Write) (x y : List ℕ) → AllHeld vs → AllHeld ws
    → length vs ≡ length ws → writes_bytes vs ++ x ≡ writes_bytes ws ++ y → (vs ≡ ws) × (x ≡ y)
writes_apart [] [] x y h k n e = (refl, e)
writes_apart [] (w ∷ ws) x y h k n e = absurd (omega arith)
writes_apart (v ∷ vs) [] x y h k n e = absurd (omega arith)
writes_apart (v ∷ vs) (w ∷ ws) x y h k n e =
    let first = write_apart v w (writes_bytes vs ++ x) (writes_bytes ws ++ y) h.0 k.0
    (sym (append_assoc (write_bytes v) (writes_bytes vs) x) ∙ e
    ∙ append_assoc (write_bytes w) (writes_bytes ws) y) in
    let rest = writes_apart vs ws x y h.1 k.1 (omega arith) first.1 in
    ((λ i. first.0 i ∷ rest.0 i), rest.1)

-- No two groups have the same bytes.
pub one_group : (vs ws : List Write) → IsHeldGroup vs → IsHeldGroup ws
    → group_bytes vs ≡ group_bytes ws → vs ≡ ws
unfolding group_bytes
one_group vs ws h k e =
    let count = number-apart (length vs) (length ws) (writes_bytes vs) (writes_bytes ws) h.count
    k.count e in
    (writes_apart vs ws [] [] h.writes k.writes count.0
    (append-nil (writes_bytes vs) ∙ count.1 ∙ sym (append-nil (writes_bytes ws)))).0
