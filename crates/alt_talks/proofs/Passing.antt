-- What every stretch of a run keeps, one after the other.
use Rattle.std.proofs.Common.{◌&&◌, Bool, IsTrue, refl, ap, subst, ◌∙◌, arith}
use Rattle.alt_disk.specs.Disk.{DiskState, Goes, IsTrusted}
use Rattle.alt_shell.specs.Log.{notes_of, talks}
use Rattle.alt_talks.specs.Runs.{Passes}

-- no call
pub passes_none : (s : DiskState) → Passes s s
passes_none s = record {
  tells = refl;
  honest = refl;
  anchors = refl;
  later = omega arith;
  faults = omega arith;
  past = λ t f le. refl;
  notes = refl;
  talking = refl;
}

-- calls of the disk alone
pub passes_goes : (a b : DiskState) → Goes a b → Passes a b
passes_goes a b goes = record {
  tells = goes.tells;
  honest = goes.honest;
  anchors = goes.anchors;
  later = goes.later;
  faults = goes.faults;
  past = goes.past;
  notes = ap notes_of goes.beside;
  talking = ap talks goes.beside;
}

-- two stretches
pub passes_then : (a b c : DiskState) → Passes a b → Passes b c → Passes a c
passes_then a b c p q = record {
  tells = q.tells ∙ p.tells;
  honest = q.honest ∙ p.honest;
  anchors = q.anchors ∙ p.anchors;
  later = omega (arith, p.later, q.later);
  faults = omega (arith, p.faults, q.faults);
  past = λ t f le. q.past t f (omega (arith, le, p.later)) ∙ p.past t f le;
  notes = q.notes ∙ p.notes;
  talking = q.talking ∙ p.talking;
}

-- a disk that can be relied on behind a stretch could be relied on before it
pub passes_back : (a b : DiskState) → Passes a b → IsTrusted b → IsTrusted a
passes_back a b p trusted = subst (λ (v : Bool). IsTrue v) (λ i. p.tells i && p.honest i) trusted
