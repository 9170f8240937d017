-- The bytes of a write and of a group, piece by piece.
use Rattle.std.proofs.Common.{◌≡◌, ℕ, List, [], ◌∷◌, Option, ◌++◌, length, ap, ◌∙◌, append_assoc}
use Rattle.std.specs.Int.{w32, w64, to_be_bytes}
use Rattle.alt_base.proofs.Lists.{append_five}
use Rattle.alt_cells.specs.declared.batch.RowChange.{RowChange}
use Rattle.alt_fields.specs.Field.{field}
use Rattle.alt_writes.specs.Writes.{Write}
use Rattle.alt_writes.specs.Bytes.{clear_byte, columns_bytes, change_bytes, changes_bytes, write_bytes, writes_bytes, group_bytes}

-- three parts put one behind another
pub three_put : (out a b c : List ℕ) → ((out ++ a) ++ b) ++ c ≡ out ++ (a ++ (b ++ c))
three_put out a b c = append_assoc (out ++ a) b c ∙ append_assoc out a (b ++ c)

-- the five parts of a change are its bytes
pub change_bytes_put : (change : RowChange) (key : List ℕ) (cells : List (List ℕ × Option (List ℕ)))
    (byte : ℕ) (out a b c d e : List ℕ)
    → key ≡ change.key → cells ≡ change.cells → byte ≡ clear_byte change.clear
    → a ≡ out ++ to_be_bytes w32 change.family → b ≡ a ++ field key → c ≡ b ++ byte ∷ []
    → d ≡ c ++ to_be_bytes w64 (length cells) → e ≡ d ++ columns_bytes cells
    → e ≡ out ++ change_bytes change
unfolding change_bytes
change_bytes_put change key cells byte out a b c d e same_key same_cells same_byte p q r s t =
    t ∙ ap (λ x. x ++ columns_bytes cells) (s ∙ ap (λ x. x ++ to_be_bytes w64 (length cells))
    (r ∙ ap (λ x. x ++ byte ∷ []) (q ∙ ap (λ x. x ++ field key) p)))
    ∙ append_five out (to_be_bytes w32 change.family) (field key) (byte ∷ [])
    (to_be_bytes w64 (length cells)) (columns_bytes cells)
    ∙ (λ i. out ++ (to_be_bytes w32 change.family
    ++ (field (same_key i) ++ ((same_byte i ∷ [])
    ++ (to_be_bytes w64 (length (same_cells i)) ++ columns_bytes (same_cells i))))))

-- and the three of a write are its
pub write_bytes_put : (w : Write) (out a b c : List ℕ) → a ≡ out ++ to_be_bytes w64 w.number
    → b ≡ a ++ to_be_bytes w64 (length w.changes) → c ≡ b ++ changes_bytes w.changes
    → c ≡ out ++ write_bytes w
unfolding write_bytes
write_bytes_put w out a b c p q r = r ∙ ap (λ x. x ++ changes_bytes w.changes)
    (q ∙ ap (λ x. x ++ to_be_bytes w64 (length w.changes)) p)
    ∙ three_put out (to_be_bytes w64 w.number) (to_be_bytes w64 (length w.changes))
    (changes_bytes w.changes)

-- and the two of a group are its
pub group_bytes_put : (ws : List Write) (out a b : List ℕ) → out ≡ []
    → a ≡ out ++ to_be_bytes w64 (length ws) → b ≡ a ++ writes_bytes ws → b ≡ group_bytes ws
unfolding group_bytes
group_bytes_put ws out a b none p q = q ∙ ap (λ x. x ++ writes_bytes ws)
    (p ∙ ap (λ x. x ++ to_be_bytes w64 (length ws)) none)
