-- What the entries of a segment hold: in a log of the first form each is one write, in one of the second a group of them.
use Rattle.std.specs.Prelude.{◌≡◌, ℕ, List, [], ◌∷◌}
use Rattle.std.specs.List.{flat_map}
use Rattle.alt_gatelog.specs.declared.form.Form.{Form}
use Rattle.alt_gatelog.specs.declared.form.Form.TheVariants.{One, Two}
use Rattle.alt_writes.specs.Bytes.{IsHeldGroup, IsHeldWrite, group_bytes, write_bytes}
use Rattle.alt_writes.specs.Writes.{AreRising, Write}

-- An entry of a log of this form holds these writes.
abbrev pub IsEntry : Form → List ℕ → List Write → Type 0
IsEntry One entry [] = ⊥
IsEntry One entry (w ∷ []) = (entry ≡ write_bytes w) × IsHeldWrite w
IsEntry One entry (w ∷ v ∷ ws) = ⊥
IsEntry Two entry ws = (entry ≡ group_bytes ws) × IsHeldGroup ws

-- Each of several entries holds its group of writes.
abbrev pub AreEntries : Form → List (List ℕ) → List (List Write) → Type 0
AreEntries form [] [] = Unit {0}
AreEntries form [] (group ∷ groups) = ⊥
AreEntries form (entry ∷ entries) [] = ⊥
AreEntries form (entry ∷ entries) (group ∷ groups) =
    IsEntry form entry group × AreEntries form entries groups

-- The entries of a log of this form hold these writes, in order.
pub record HoldWrites (form : Form) (entries : List (List ℕ)) (ws : List Write) : Type 0 where
  pub groups : List (List Write)
  pub each : AreEntries form entries groups
  pub are : ws ≡ flat_map (λ group. group) groups

-- An entry holds no writes in a log of this form, or none whose numbers rise from this one on.
abbrev pub IsNoEntry : Form → ℕ → List ℕ → Type 0
IsNoEntry form number entry =
    (ws : List Write) → IsEntry form entry ws → AreRising number ws → ⊥
