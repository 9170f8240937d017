-- The state for which files stand.
use Rattle.std.specs.Prelude.{ℕ, List, Option}
use Rattle.alt_layout.specs.Files.{IsLayout}
use Rattle.alt_layout.specs.Layout.{Layout}
use Rattle.alt_machine.specs.State.{State}
use Rattle.alt_machine.specs.Valid.{IsValid}
use Rattle.alt_opening.specs.StateRows.{Shows, IsHeldWhole}

-- The files hold rows, and these show the state.
pub record StandsFor (image : ℕ → Option (List ℕ)) (s : State) : Type 0 where
  pub layout : Layout
  pub is : IsLayout image layout
  pub shows : Shows layout s
  pub valid : IsValid s
  pub held : IsHeldWhole s
