-- What the server does by itself: behind a request it builds an index further, and behind every 64th connection it deletes expired items.
use Rattle.std.proofs.Common.{◌≡◌, ◌==◌, ◌%◌, ap, inl, inr, ℕ, Bool, true, false, List, [], Option, Some, None, option_map, refl}
use Rattle.std.specs.Prelude.{if◌then◌else◌}
use Rattle.std.specs.Option.{option_map_or}
use Rattle.alt_disk.specs.Disk.{DiskState}
use Rattle.alt_disk.proofs.Calls.{goes_refl}
use Rattle.alt_machine.specs.State.{State}
use Rattle.alt_machine.specs.Wanted.{Lack}
use Rattle.alt_faults.proofs.Telling.{tells-more}
use Rattle.alt_tables.specs.Images.{StandsFor}
use Rattle.alt_tables.specs.Stands.{Stands}
use Rattle.alt_tables.specs.declared.tables.Tables.{Tables}
use Rattle.alt_tables.proofs.Left.{stands_left}
use Rattle.alt_talks.specs.Faults.{IsAnswerFault, IsCausedBy, told_by_run}
use Rattle.alt_talks.specs.Own.{building, expiries, none_own, own_behind, own_between}
use Rattle.alt_talks.specs.declared.expiring.TheConstants.{BETWEEN_EXPIRIES, MOST_EXPIRIES}
use Rattle.alt_talks.specs.Stops.{IsAmong}
use Rattle.alt_talks.specs.Turns.{or_next}
use Rattle.alt_talks.specs.Works.{Follows, WorksOnStore}
use Rattle.alt_talks.specs.declared.fault.RunFault.{RunFault}
use Rattle.alt_talks.proofs.FileFaults.{IsTurnFault}
use Rattle.alt_talks.proofs.StretchLeaving.{leaves-here, leaves-weaker}

-- a Build behind a request
pub built_behind : (s : State) → own_behind s ≡ building s
unfolding own_behind
built_behind s = refl

-- nothing behind a connection of another number
pub none_between : (number : ℕ) (moment : Option ℕ) (s : State)
    → (number % BETWEEN_EXPIRIES == 0) ≡ false → own_between number moment s ≡ none_own
unfolding own_between
none_between number moment s other = ap (λ (b : Bool). if b
    then option_map_or (λ m. expiries MOST_EXPIRIES m s) moment none_own else none_own) other

-- nor where no moment was told
pub none_told : (number : ℕ) (s : State) → own_between number None s ≡ none_own
unfolding own_between
none_told number s = by (number % BETWEEN_EXPIRIES == 0)
  where
    by : (b : Bool) → (if b then none_own else none_own) ≡ none_own
    by true = refl
    by false = refl

-- else expired items are deleted, at that moment
pub expiries_between : (number moment : ℕ) (s : State) → (number % BETWEEN_EXPIRIES == 0) ≡ true
    → own_between number (Some moment) s ≡ expiries MOST_EXPIRIES moment s
unfolding own_between
expiries_between number moment s is = ap (λ (b : Bool). if b
    then expiries MOST_EXPIRIES moment s else none_own) is

-- ---- nothing follows

pub follows_none : (a : DiskState) (tables : Tables) (s : State) → Stands a tables s
    → Follows a a s []
follows_none a tables s stands = record {
  goes = goes_refl a;
  leaves = leaves-here a (λ _ image. IsAmong image s [])
      (λ trusted t image is. (0, stands_left a tables s stands image is));
}

-- but work
pub follows_worked : (a b : DiskState) (s : State) → WorksOnStore a b s → Follows a b s []
follows_worked a b s works = record {
  goes = works.goes;
  leaves = leaves-weaker a b (λ _ image. StandsFor image s) (λ _ image. IsAmong image s [])
      (λ t image stands. (0, stands)) works.leaves;
}

-- ---- what a request and what follows it lack

-- nothing, where neither lacks anything
pub enough_both : (a b : Option Lack) → a ≡ None → b ≡ None → or_next a b ≡ None
enough_both None b here behind = behind
enough_both (Some x) b here behind = here

-- what the request lacks is lacked
pub cause_first : (a b : Option Lack) (fault : RunFault) → IsCausedBy a fault
    → IsCausedBy (or_next a b) fault
cause_first (Some x) b fault h = h
cause_first None b fault h =
    tells-more (λ n. option_map (λ (l : Lack). l.number) None ≡ Some n)
    (λ n. option_map (λ (l : Lack). l.number) b ≡ Some n) (λ d. ⊥) (λ d. ⊥) (λ n no. absurd (let f : ⊥ = cc in f))
    (λ d no. no) (told_by_run fault) h

-- and it has no answer for what is lacked, or for the file of its first write, whatever the server lacks behind it
pub answer_first : (file : ℕ) (a b : Option Lack) (atoms : List State) (fault : RunFault)
    → IsAnswerFault file a atoms fault → IsTurnFault file a (or_next a b) atoms fault
answer_first file a b atoms fault (inl h) = inl (cause_first a b fault h)
answer_first file a b atoms fault (inr h) = inr h

-- and so is what the server lacks behind one that lacks nothing
pub cause_behind : (a b : Option Lack) (fault : RunFault) → a ≡ None → IsCausedBy b fault
    → IsCausedBy (or_next a b) fault
cause_behind None b fault here h = h
cause_behind (Some x) b fault here h = absurd (let f : ⊥ = cc in f)

-- nor is what the server does made behind one that lacks nothing
pub answer_behind : (file : ℕ) (a b : Option Lack) (atoms : List State) (fault : RunFault) → a ≡ None
    → IsAnswerFault file b atoms fault → IsAnswerFault file (or_next a b) atoms fault
answer_behind file a b atoms fault here (inl h) = inl (cause_behind a b fault here h)
answer_behind file a b atoms fault here (inr h) = inr (enough_both a b here h.0, h.1, h.2)
