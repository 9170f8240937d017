-- How calls of any disk follow one another.
use Rattle.std.proofs.Common.{◌≡◌, ◌⊎◌, inl, inr, true, false, Result, Ok, Err, OnOk, OnErr, IsErr, is_ok, refl, sym, ◌∙◌, arith}
use Rattle.std.proofs.lemmas.Bool.{false≢true}
use Rattle.alt_disk.specs.Disk.{DiskState, Goes, Tick, Silent, Faulted, Same}

-- an answer is one or the other, with what holds of it
pub split : {T E X Y : Type 0} (r : Result T E) → OnOk r X → OnErr r Y
    → ((is_ok r ≡ true) × X) ⊎ ((is_ok r ≡ false) × Y)
split (Ok x) ok err = inl (refl, ok)
split (Err e) ok err = inr (refl, err)

-- no call
pub goes_refl : (s : DiskState) → Goes s s
goes_refl s = record {
  tells = refl;
  honest = refl;
  beside = refl;
  anchors = refl;
  later =
      omega arith;
  faults = omega arith;
  past = λ t f le. refl;
}

-- one run of calls after another
pub goes_on : (a b c : DiskState) → Goes a b → Goes b c → Goes a c
goes_on a b c first then = record {
  tells = then.tells ∙ first.tells;
  honest = then.honest ∙ first.honest;
  beside = then.beside ∙ first.beside;
  anchors = then.anchors ∙ first.anchors;
  later = omega (arith, first.later, then.later);
  faults = omega (arith, first.faults, then.faults);
  past = λ t f le. then.past t f (omega (arith, le, first.later)) ∙ first.past t f le;
}

-- no call leaves all files
pub same_refl : (s : DiskState) → Same s s
same_refl s = record { file = λ g. refl; fates = λ g. refl }

-- files that stay twice stay
pub same_on : (a b c : DiskState) → Same a b → Same b c → Same a c
same_on a b c first then = record {
  file = λ g. then.file g ∙ first.file g;
  fates =
      λ g. then.fates g ∙ first.fates g;
}

-- a fault in a call makes it one that failed
pub tick_fault : (a b c : DiskState) → Tick a b true → Faulted b c → Tick a c false
tick_fault a b c tick fault = record {
  call = record {
    goes = goes_on a b c tick.call.goes fault.goes;
    step = omega (arith, tick.call.step, fault.moment);
    cause = λ _. omega (arith, tick.call.goes.faults, fault.rose);
    well = λ ok. absurd (false≢true ok);
  };
  moment = fault.moment ∙ tick.moment;
  reads = fault.reads ∙ tick.reads;
  ended = λ ends. absurd (false≢true (sym (tick.ended ends).0));
}

-- and so in one that leaves the files
pub silent_fault : (a b c : DiskState) → Silent a b true → Faulted b c → Silent a c false
silent_fault a b c silent fault = record {
  tick = tick_fault a b c silent.tick fault;
  same = same_on a b c silent.same fault.same;
}

-- an error is no Ok
pub not_ok : {T E : Type 0} (r : Result T E) → IsErr r → is_ok r ≡ false
not_ok (Ok x) err = absurd (false≢true err)
not_ok (Err e) err = refl
