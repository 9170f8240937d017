-- Reading writes back, up to a change: what was read is what was put, and where reading stops nothing was.
use Rattle.std.proofs.Common.{◌≡◌, ◌<◌, ◌+◌, ◌^◌, ℕ, Bool, true, false, List, [], ◌∷◌, ◌++◌, length, Option, Some, None, sym, ap, refl, ◌∙◌, arith, append_assoc, length-append}
use Rattle.std.proofs.lemmas.List.{append-nil}
use Rattle.std.specs.Int.{w32, w64, to_be_bytes}
use Rattle.alt_cells.specs.declared.batch.RowChange.{RowChange}
use Rattle.alt_fields.specs.Bytes.{IsShort}
use Rattle.alt_fields.specs.Field.{field, told_length}
use Rattle.alt_fields.proofs.Apart.{field_whole, number-apart, field-apart, number_four-apart}
use Rattle.alt_writes.specs.Bytes.{clear_byte, value_bytes, columns_bytes, change_bytes, changes_bytes, IsShortValue, AreShortCells, IsHeldChange, AreHeldChanges}
use Rattle.alt_writes.specs.Reading.{IsNone, NoNumber, NoFamilyNumber, NoField, NoFlag, NoColumnValue, NoColumns, NoChange, NoChanges}
use Rattle.alt_writes.specs.declared.read.Stop.{Stop}
use Rattle.alt_writes.specs.declared.read.Stop.TheVariants.{Bad, NoMemory}
use Rattle.alt_writes.proofs.OneWrite.{value_apart, clear_apart, change_pieces, change_apart}

-- what is true of the bytes where one thing is bad is true where another is
pub none_map : (P Q : Type 0) (s : Stop) → (P → Q) → IsNone P s → IsNone Q s
none_map P Q Bad f h = f h
none_map P Q NoMemory f h = tt

-- ---- the pieces

-- too few bytes for a number
pub no_number : (bytes : List ℕ) → length bytes < 8 → NoNumber bytes
no_number bytes few n behind small e =
    let l : length bytes ≡ 8 + length behind =
    ap length e ∙ length-append (to_be_bytes w64 n) behind in omega arith

-- or for that of a family
pub no_family : (bytes : List ℕ) → length bytes < 4 → NoFamilyNumber bytes
no_family bytes few n behind small e =
    let l : length bytes ≡ 4 + length behind =
    ap length e ∙ length-append (to_be_bytes w32 n) behind in omega arith

-- or for a field
pub no_field : (bytes : List ℕ) → length bytes < 8 + told_length bytes 0 → NoField bytes
no_field bytes few s behind short e = field_whole bytes s behind short e few

-- ---- what a column is given

-- no flag
pub no_value-flag : (bytes : List ℕ) → NoFlag bytes → NoColumnValue bytes
no_value-flag bytes non None behind short e = non false behind e
no_value-flag bytes non (Some v) behind short e = non true (field v ++ behind) e

-- the flag of a value, and no value behind it
pub no_value-field : (bytes rest : List ℕ) → bytes ≡ clear_byte true ∷ rest → NoField rest
    → NoColumnValue bytes
no_value-field bytes rest is non None behind short e =
    let n : 1 ∷ rest ≡ 0 ∷ behind = sym is ∙ e in cc n
no_value-field bytes rest is non (Some v) behind short e =
    non v behind short (clear_apart true true rest (field v ++ behind) (sym is ∙ e)).1

-- ---- columns

-- a column more
pub cells_push : (es : List (List ℕ × Option (List ℕ))) (name : List ℕ) (v : Option (List ℕ))
    (bytes rest flagged behind : List ℕ) → bytes ≡ columns_bytes es ++ rest
    → rest ≡ field name ++ flagged → flagged ≡ value_bytes v ++ behind
    → bytes ≡ columns_bytes (es ++ (name, v) ∷ []) ++ behind
cells_push [] name v bytes rest flagged behind is named given =
    is ∙ named ∙ ap (λ x. field name ++ x) given
    ∙ sym (append_assoc (field name) (value_bytes v) behind)
    ∙ ap (λ x. x ++ behind) (sym (append-nil (field name ++ value_bytes v)))
cells_push (e ∷ es) name v bytes rest flagged behind is named given =
    is ∙ append_assoc (field e.0 ++ value_bytes e.1) (columns_bytes es) rest
    ∙ ap (λ x. (field e.0 ++ value_bytes e.1) ++ x)
    (cells_push es name v (columns_bytes es ++ rest) rest flagged behind refl named given)
    ∙ sym (append_assoc (field e.0 ++ value_bytes e.1) (columns_bytes (es ++ (name, v) ∷ [])) behind)

-- which is short, so all are
pub short_push : (es : List (List ℕ × Option (List ℕ))) (name : List ℕ) (v : Option (List ℕ))
    → AreShortCells es → IsShort name → IsShortValue v → AreShortCells (es ++ (name, v) ∷ [])
short_push [] name v h short value = (short, value, tt)
short_push (e ∷ es) name v h short value = (h.0, h.1, short_push es name v h.2 short value)

-- the column behind those that were read
pub record NextCell (rest : List ℕ) : Type 0 where
  pub name : List ℕ
  pub value : Option (List ℕ)
  pub more : List ℕ
  pub short : IsShort name
  pub given : IsShortValue value
  pub is : rest ≡ field name ++ (value_bytes value ++ more)

-- where there are more columns than were read
pub next_cell : (done es : List (List ℕ × Option (List ℕ))) (rest y : List ℕ) → AreShortCells done
    → AreShortCells es → length done < length es → columns_bytes done ++ rest ≡ columns_bytes es ++ y
    → NextCell rest
next_cell [] [] rest y h k less e = absurd (omega arith)
next_cell [] (b ∷ es) rest y h k less e = record {
  name = b.0;
  value = b.1;
  more = columns_bytes es ++ y;
  short = k.0;
  given = k.1;
  is = e ∙ append_assoc (field b.0 ++ value_bytes b.1) (columns_bytes es) y
      ∙ append_assoc (field b.0) (value_bytes b.1) (columns_bytes es ++ y);
}
next_cell (a ∷ done) [] rest y h k less e = absurd (omega arith)
next_cell (a ∷ done) (b ∷ es) rest y h k less e =
    let name = field-apart a.0 b.0 (value_bytes a.1 ++ (columns_bytes done ++ rest))
    (value_bytes b.1 ++ (columns_bytes es ++ y)) h.0 k.0
    (sym (pieces a done rest) ∙ e ∙ pieces b es y) in
    let value = value_apart a.1 b.1 (columns_bytes done ++ rest) (columns_bytes es ++ y) h.1 k.1 name.1
    in next_cell done es rest y h.2 k.2 (omega arith) value.1
  where
    pieces : (a : List ℕ × Option (List ℕ)) (es : List (List ℕ × Option (List ℕ))) (x : List ℕ)
        → ((field a.0 ++ value_bytes a.1) ++ columns_bytes es) ++ x
        ≡ field a.0 ++ (value_bytes a.1 ++ (columns_bytes es ++ x))
    pieces a es x = append_assoc (field a.0 ++ value_bytes a.1) (columns_bytes es) x
        ∙ append_assoc (field a.0) (value_bytes a.1) (columns_bytes es ++ x)

module _ (count : ℕ) (done : List (List ℕ × Option (List ℕ))) (bytes rest : List ℕ)
    (few : length done < count) (short : AreShortCells done) (is : bytes ≡ columns_bytes done ++ rest)
  where
    -- no name behind them
    pub no_cells-name : NoField rest → NoColumns count bytes
    no_cells-name non es y h n e =
        let next = next_cell done es rest y short h (omega (arith, n)) (sym is ∙ e) in
        non next.name (value_bytes next.value ++ next.more) next.short next.is

    -- or a name with nothing that is given
    pub no_cells-value : (name flagged : List ℕ) → IsShort name → rest ≡ field name ++ flagged
        → NoColumnValue flagged → NoColumns count bytes
    no_cells-value name flagged short_name named non es y h n e =
        let next = next_cell done es rest y short h (omega (arith, n)) (sym is ∙ e) in
        non next.value next.more next.given
        (field-apart name next.name flagged (value_bytes next.value ++ next.more) short_name
        next.short (sym named ∙ next.is)).1

-- ---- a change

module _ (bytes : List ℕ) where
  -- where no family is named there is no change
  pub no_change-family : NoFamilyNumber bytes → NoChange bytes
  no_change-family non d y h e = non d.family _ h.family (e ∙ change_pieces d y)

  module _ (family : ℕ) (keyed : List ℕ) (small : family < 2 ^ 32)
      (is : bytes ≡ to_be_bytes w32 family ++ keyed) where
    behind_family : (d : RowChange) (y : List ℕ) → IsHeldChange d → bytes ≡ change_bytes d ++ y
        → keyed ≡ field d.key ++ (clear_byte d.clear ∷ (to_be_bytes w64 (length d.cells)
        ++ (columns_bytes d.cells ++ y)))
    behind_family d y h e = (number_four-apart family d.family keyed _ small h.family
        (sym is ∙ e ∙ change_pieces d y)).1

    pub no_change-key : NoField keyed → NoChange bytes
    no_change-key non d y h e = non d.key _ h.key (behind_family d y h e)

    module _ (key flagged : List ℕ) (short : IsShort key) (named : keyed ≡ field key ++ flagged)
      where
        behind_key : (d : RowChange) (y : List ℕ) → IsHeldChange d → bytes ≡ change_bytes d ++ y
            → flagged ≡ clear_byte d.clear ∷ (to_be_bytes w64 (length d.cells)
            ++ (columns_bytes d.cells ++ y))
        behind_key d y h e = (field-apart key d.key flagged _ short h.key
            (sym named ∙ behind_family d y h e)).1

        pub no_change-flag : NoFlag flagged → NoChange bytes
        no_change-flag non d y h e = non d.clear _ (behind_key d y h e)

        module _ (clear : Bool) (counted : List ℕ)
            (flag : flagged ≡ clear_byte clear ∷ counted) where
          behind_flag : (d : RowChange) (y : List ℕ) → IsHeldChange d → bytes ≡ change_bytes d ++ y
              → counted ≡ to_be_bytes w64 (length d.cells) ++ (columns_bytes d.cells ++ y)
          behind_flag d y h e =
              (clear_apart clear d.clear counted _ (sym flag ∙ behind_key d y h e)).1

          pub no_change-count : NoNumber counted → NoChange bytes
          no_change-count non d y h e = non (length d.cells) _ h.count (behind_flag d y h e)

          module _ (count : ℕ) (listed : List ℕ) (fits : count < 2 ^ 64)
              (told : counted ≡ to_be_bytes w64 count ++ listed) where
            pub no_change-cells : NoColumns count listed → NoChange bytes
            no_change-cells non d y h e =
                let parts = number-apart count (length d.cells) listed
                (columns_bytes d.cells ++ y) fits
                h.count (sym told ∙ behind_flag d y h e) in
                non d.cells y h.cells (sym parts.0) parts.1

            -- what was read is a change
            pub change_read : (c : RowChange) (rest : List ℕ) → c.family ≡ family → c.key ≡ key
                → c.clear ≡ clear → length c.cells ≡ count → listed ≡ columns_bytes c.cells ++ rest
                → bytes ≡ change_bytes c ++ rest
            change_read c rest f k b n cells =
                is ∙ (λ i. to_be_bytes w32 (sym f i) ++ (named ∙ (λ i. field (sym k i)
                ++ (flag ∙ (λ i. clear_byte (sym b i) ∷ (told ∙ (λ i. to_be_bytes w64 (sym n i)
                ++ cells i)) i)) i)) i) ∙ sym (change_pieces c rest)

-- ---- changes

-- a change more
pub changes_push : (cs : List RowChange) (c : RowChange) (bytes rest behind : List ℕ)
    → bytes ≡ changes_bytes cs ++ rest → rest ≡ change_bytes c ++ behind
    → bytes ≡ changes_bytes (cs ++ c ∷ []) ++ behind
changes_push [] c bytes rest behind is next =
    is ∙ next ∙ ap (λ x. x ++ behind) (sym (append-nil (change_bytes c)))
changes_push (d ∷ cs) c bytes rest behind is next =
    is ∙ append_assoc (change_bytes d) (changes_bytes cs) rest
    ∙ ap (λ x. change_bytes d ++ x)
    (changes_push cs c (changes_bytes cs ++ rest) rest behind refl next)
    ∙ sym (append_assoc (change_bytes d) (changes_bytes (cs ++ c ∷ [])) behind)

-- which fits its bytes, so all do
pub changes_held-push : (cs : List RowChange) (c : RowChange) → AreHeldChanges cs → IsHeldChange c
    → AreHeldChanges (cs ++ c ∷ [])
changes_held-push [] c h held = (held, tt)
changes_held-push (d ∷ cs) c h held = (h.0, changes_held-push cs c h.1 held)

-- the change behind those that were read
pub record NextChange (rest : List ℕ) : Type 0 where
  pub change : RowChange
  pub more : List ℕ
  pub held : IsHeldChange change
  pub is : rest ≡ change_bytes change ++ more

-- where there are more changes than were read
pub next_change : (done cs : List RowChange) (rest y : List ℕ) → AreHeldChanges done
    → AreHeldChanges cs → length done < length cs
    → changes_bytes done ++ rest ≡ changes_bytes cs ++ y → NextChange rest
next_change [] [] rest y h k less e = absurd (omega arith)
next_change [] (b ∷ cs) rest y h k less e = record {
  change = b;
  more = changes_bytes cs ++ y;
  held = k.0;
  is = e ∙ append_assoc (change_bytes b) (changes_bytes cs) y;
}
next_change (a ∷ done) [] rest y h k less e = absurd (omega arith)
next_change (a ∷ done) (b ∷ cs) rest y h k less e =
    let first = change_apart a b (changes_bytes done ++ rest) (changes_bytes cs ++ y) h.0 k.0
    (sym (append_assoc (change_bytes a) (changes_bytes done) rest) ∙ e
    ∙ append_assoc (change_bytes b) (changes_bytes cs) y) in
    next_change done cs rest y h.1 k.1 (omega arith) first.1

-- no change behind those that were read
pub no_changes : (count : ℕ) (done : List RowChange) (bytes rest : List ℕ) → length done < count
    → AreHeldChanges done → bytes ≡ changes_bytes done ++ rest → NoChange rest
    → NoChanges count bytes
no_changes count done bytes rest few held is non cs y h n e =
    let next = next_change done cs rest y held h (omega (arith, n)) (sym is ∙ e) in
    non next.change next.more next.held next.is
