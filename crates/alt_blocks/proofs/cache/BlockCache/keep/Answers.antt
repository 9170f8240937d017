-- A place more, or none.
use Rattle.std.proofs.Common.{◌≡◌, ◌≤◌, ap, subst, arith, ℕ, List, length, take, inl, ◌⊎◌, Contains}
use Rattle.std.proofs.lemmas.List.{length-take}
use Rattle.alt_blocks.specs.declared.cache.TheConstants.{LONGEST_KEPT}
use Rattle.alt_blocks.specs.Places.{ReadPlace}
use Rattle.alt_blocks.proofs.Agreeing.{adds_put}
use Rattle.alt_blocks.proofs.Bounded.{short_put}
use Rattle.alt_blocks.proofs.cache.BlockCache.keep.Goals as goal

pub invariant_of-self : goal.invariant_of-self
invariant_of-self c =
    let place : ReadPlace = (c.args.f, c.args.at, length c.args.buf.now) in
    let is : c.in-Ok.bytes ≡ take c.args.count c.args.buf.now = c.in-Ok.ensures.copied in
    let one : length c.in-Ok.bytes ≤ LONGEST_KEPT =
    omega
    (arith, ap length is, length-take c.args.count c.args.buf.now, c.if-buf-gt-LONGEST_KEPT.false)
    in
    record {
      short =
          short_put c.put.result c.args.self.now.places c.put.new.self place c.in-Ok.bytes
          c.put.ensures.entries c.put.ensures.err one c.args.self.now.short;
    }

pub returns-in-Ok-put : goal.returns-in-Ok-put
returns-in-Ok-put c =
    let place : ReadPlace = (c.args.f, c.args.at, length c.args.buf.now) in
    let added = adds_put c.args.self.now.places c.put.new.self.entries place c.in-Ok.bytes
    (ap (λ l. l.entries) c.in-Ok-put.ensures.entries) in
    record {
      adds = subst (λ (kept : List ℕ). (p : ReadPlace) (b : List ℕ)
          → Contains c.put.new.self.entries (p, b)
          → Contains c.args.self.now.places.entries (p, b) ⊎ ((p ≡ place) × (b ≡ kept)))
          c.in-Ok.ensures.copied added;
    }

pub returns-in-Ok : goal.returns-in-Ok
returns-in-Ok c = record {
  adds = λ p b kept. inl (subst (λ (l : List (ReadPlace × List ℕ)). Contains l (p, b))
      (ap (λ l. l.entries) c.in-Err-put.ensures.err) kept);
}
