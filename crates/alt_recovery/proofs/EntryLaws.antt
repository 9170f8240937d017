-- Why an entry wasn't read as writes.
use Rattle.std.proofs.Common.{ℕ, List, [], ◌∷◌}
use Rattle.alt_gatelog.specs.Parse.{IsNoDamage}
use Rattle.alt_gatelog.specs.declared.fault.LogFault.{LogFault}
use Rattle.alt_gatelog.specs.declared.fault.LogFault.TheVariants.{Damaged, Failed, NoMemory}
use Rattle.alt_gatelog.specs.declared.form.Form.{Form}
use Rattle.alt_gatelog.specs.declared.form.Form.TheVariants.{One, Two}
use Rattle.alt_layout.specs.Entries.{IsNoEntry}
use Rattle.alt_writes.specs.Reading.{IsNoGroup, IsNoWrite}
use Rattle.alt_writes.specs.declared.read.Stop.TheVariants as stop
use Rattle.alt_recovery.specs.Entries.{ExplainsEntry}

-- a read that fails without damage says nothing of an entry
pub undamaged_entry : (form : Form) (f : ℕ) (entries : List (List ℕ)) (i least : ℕ)
    (fault : LogFault) → IsNoDamage fault → ExplainsEntry form f entries i least fault
undamaged_entry form f entries i least (Damaged file at) h = absurd h
undamaged_entry form f entries i least Failed h = tt
undamaged_entry form f entries i least NoMemory h = tt

-- bytes that are no write are no entry of the first form
pub none_alone : (least : ℕ) (entry : List ℕ) → IsNoWrite least entry → IsNoEntry One least entry
none_alone least entry non [] is rising = is
none_alone least entry non (w ∷ []) is rising = non w is.1 rising.0 is.0
none_alone least entry non (w ∷ v ∷ ws) is rising = is

-- and those that are no group are none of the second
pub none_group : (least : ℕ) (entry : List ℕ) → IsNoGroup least entry → IsNoEntry Two least entry
none_group least entry non ws is rising = non ws is.1 rising is.0
