-- A request up to its reply: its moment was asked for, and it was carried out.
use Rattle.std.proofs.Common.{inl, ℕ, List, [], ◌∷◌, refl, sym, ap, subst, arith}
use Rattle.alt_disk.specs.Disk.{DiskState, Goes}
use Rattle.alt_disk.proofs.Runs.{trusted_on}
use Rattle.alt_machine.specs.State.{State}
use Rattle.alt_shell.specs.Calls.{Aside}
use Rattle.alt_shell.specs.Log.{Log, Grows, TellsMoments, moments_of}
use Rattle.alt_talks.specs.Stops.{IsUncut, AtEach}
use Rattle.alt_shell.proofs.Telling.{Grows-nil, Tells-nil}
use Rattle.alt_tables.specs.Stands.{Stands}
use Rattle.alt_tables.specs.declared.tables.Tables.{Tables}
use Rattle.alt_run.specs.Turns.{request, control, unread, obeyed, turned_away, carried_out}
use Rattle.alt_tables.specs.Images.{StandsFor}
use Rattle.alt_talks.specs.Works.{WorksOnStore}
use Rattle.alt_run.specs.declared.lines.Control.{Control}
use Rattle.alt_run.proofs.TurnServing.{Begins}
use Rattle.alt_tables.proofs.Left.{stands_left}
use Rattle.alt_talks.proofs.Stopping.{trusts-kept}
use Rattle.alt_talks.proofs.StretchLeaving.{leaves-here, leaves-weaker, leaves-behind-aside}

pub begins : (old mid new : DiskState) (s : State) (name body : List ℕ) (m : ℕ)
    → Aside old mid → Grows old.beside mid.beside []
    → TellsMoments (moments_of old.beside) (moments_of mid.beside) (m ∷ [])
    → Goes mid new
    → AtEach mid new (λ _ image. IsUncut image s (carried_out s name body m).atoms)
    → Begins old new s (request name body) (carried_out s name body m) (m ∷ [])
begins old mid new s name body m aside silent told goes leaves = record {
  one = refl;
  count = refl;
  silent = subst (λ (log : Log). Grows old.beside log []) (sym goes.beside) silent;
  told = subst (λ (log : Log). TellsMoments (moments_of old.beside) (moments_of log) (m ∷ []))
      (sym goes.beside) told;
  later = let k = aside.keeps.later in omega (arith, k, goes.later);
  trusts = λ trusted. trusted_on mid new goes (trusts-kept old mid aside.keeps trusted);
  leaves = leaves-behind-aside old mid new
      (λ _ image. IsUncut image s (carried_out s name body m).atoms) aside leaves;
}

-- a line that is turned away asks for no moment and writes nothing
pub begins_away : (old : DiskState) (tables : Tables) (s : State) → Stands old tables s
    → Begins old old s unread turned_away []
begins_away old tables s stands = record {
  one = refl;
  count = refl;
  silent = Grows-nil old.beside;
  told = Tells-nil (moments_of old.beside) (moments_of old.beside) refl;
  later = omega arith;
  trusts = λ trusted. trusted;
  leaves = leaves-here old (λ _ image. IsUncut image s [])
      (λ trusted t image is_image.
      inl (stands_left old tables s stands image is_image));
}

-- what a word of control asks for was done, and the state stayed
pub begins_control : (old mid : DiskState) (word : Control) (s : State) → WorksOnStore old mid s
    → Begins old mid s (control word) obeyed []
begins_control old mid word s works = record {
  one = refl;
  count = refl;
  silent = subst (λ (log : Log). Grows old.beside log []) (sym works.goes.beside)
      (Grows-nil old.beside);
  told = Tells-nil (moments_of old.beside) (moments_of mid.beside)
      (ap moments_of works.goes.beside);
  later = works.goes.later;
  trusts = trusted_on old mid works.goes;
  leaves = leaves-weaker old mid (λ _ image. StandsFor image s) (λ _ image. IsUncut image s [])
      (λ t image stands. inl stands) works.leaves;
}
