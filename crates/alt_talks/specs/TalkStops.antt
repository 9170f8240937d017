-- What a stop leaves at each moment while connections are served.
use Rattle.std.specs.Prelude.{◌≡◌, ◌⊎◌, ℕ, suc, List, [], ◌∷◌, ◌++◌, Option, None}
use Rattle.alt_disk.specs.Disk.{DiskState, IsImage, IsTrusted}
use Rattle.alt_machine.specs.State.{State}
use Rattle.alt_shell.specs.Log.{Log, until, taken, said_in}
use Rattle.alt_tables.specs.Images.{StandsFor}
use Rattle.alt_talks.specs.Connections.{Connection, after_own, connection_start, Served, ServedSome, connection_entries, turns_of}
use Rattle.alt_talks.specs.Own.{last_told}
use Rattle.alt_talks.specs.Runs.{OfStretch}
use Rattle.alt_talks.specs.Stops.{Image, IsAmong, IsLeft, AtEach}
use Rattle.alt_talks.specs.Talks.{Turn, onward, asked, refused, Rules, Request, ConnectionPlace, turns_at}
use Rattle.alt_talks.specs.TalkTexts.{after}
use Rattle.alt_talks.specs.Turns.{Turn as Deed}
use Rattle.alt_talks.specs.declared.fault.RunFault.{RunFault}

-- a text that is said, and nothing written
abbrev pub saying : List ℕ → Deed
saying text = record { text = text; atoms = []; own = []; alone = None; lacks = None }

-- what a request comes to, with what the server does behind it
abbrev pub carrying : Rules → State → Request → ℕ → Deed
carrying r s q m = record {
  text = r.reply s q m;
  atoms = r.atoms s q m;
  own = r.own s q m;
  alone = r.alone s q m;
  lacks = r.wants s q m;
}

-- What turns come to, one after the other, as far as there are moments: the text that is said to each, and its writes.
abbrev pub deeds : Rules → State → List Turn → List ℕ → List Deed
deeds r s [] ms = []
deeds r s (onward ∷ ts) ms = saying r.greeting ∷ deeds r s ts ms
deeds r s (asked q ∷ ts) [] = []
deeds r s (asked q ∷ ts) (m ∷ ms) = carrying r s q m ∷ deeds r (r.next s q m) ts ms
deeds r s (refused k ∷ ts) [] = []
deeds r s (refused k ∷ ts) (m ∷ ms) = saying (r.refusal k m) ∷ deeds r s ts ms

-- What a stop at a moment leaves while turns are done from a state: it stands for the state behind a prefix of them, which contains every one
-- whose whole text was said by then.
abbrev pub LeftOn : Rules → State → List Turn → Log → List ℕ → ℕ → Image → Type 0
LeftOn r s ts entries told t image = IsLeft s (deeds r s ts told) (said_in (until t entries)) image

-- What a stop at a moment leaves while bytes are taken at a place and their turns are done from a state: the turns are those of the bytes
-- taken by then. So nothing is left of a request that wasn't whole by then, and what was said by then is the front of their text.
abbrev pub LeftTaken : Rules → ConnectionPlace → State → Log → List ℕ → ℕ → Image → Type 0
LeftTaken r p s entries told t image =
    LeftOn r s (turns_at r p (taken (until t entries))) entries told t image

-- on a disk that can be relied on, whatever a stop now leaves stands for the state
abbrev pub LeavesNow : DiskState → State → Type 0
LeavesNow disk s = IsTrusted disk → (image : Image) → IsImage disk disk.moment image
    → StandsFor image s

-- ---- connections

-- What a stop leaves while the server makes its own requests behind a connection from a state: it stands for the state after some of their
-- writes, none or all of them.
abbrev pub LeftBetween : Rules → ℕ → Option ℕ → State → Image → Type 0
LeftBetween r number moment s image = IsAmong image s (r.between number moment s).atoms

-- A stop at a moment leaves this while connections are served from a state, one after another, of which the first has this number, and the last
-- moment told before it is this one. It is left while the first is served, and no call of the others had ended by then; or all calls of the
-- first had, its hanging up among them, and it is left while the server makes its own requests behind it, and no call of the others had ended;
-- or it is left while the others are served.
abbrev pub LeftAmong : Rules → ℕ → ℕ → Option ℕ → State → List Connection → ℕ → Image → Type 0
LeftAmong r per number moment s [] t image = StandsFor image s
LeftAmong r per number moment s (k ∷ ks) t image =
    (LeftTaken r (connection_start per) s k.entries k.told t image × (until t (connection_entries ks) ≡ []))
    ⊎ (((until t k.entries ≡ k.entries) × (until t (connection_entries ks) ≡ [])
    × LeftBetween r number (last_told moment k.told) (after r s (turns_of r per k) k.told) image)
    ⊎ ((until t k.entries ≡ k.entries)
    × LeftAmong r per (suc number) (last_told moment k.told)
    (after_own r number (last_told moment k.told) (after r s (turns_of r per k) k.told)) ks t image))

-- Status 0: so many connections were served, or none came any more. A stop at any moment leaves every request that was answered by then, and
-- nothing of one that wasn't whole by then.
abbrev pub ServedOn : Rules → ℕ → ℕ → State → State → OfStretch
ServedOn r per connections s t old new entries told =
    (x : Served r per connections s t entries told)
    × AtEach old new (LeftAmong r per 1 None s x.all)

-- another status: one may have broken off
abbrev pub ServedSomeOn : Rules → ℕ → ℕ → RunFault → ℕ → State → OfStretch
ServedSomeOn r per connections fault next s old new entries told =
    (x : ServedSome r per connections fault next s entries told)
    × AtEach old new (LeftAmong r per 1 None s (x.all ++ x.last))
