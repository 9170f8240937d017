-- From the cache, or from the disk.
use Rattle.std.proofs.Common.{◌≡◌, ◌∙◌, sym, ap, subst, arith, take, drop, length, Bool, ℕ, IsTrue}
use Rattle.alt_disk.specs.Disk.{DiskState, contents, bytes_or_none}
use Rattle.alt_blocks.specs.Places.{ReadPlace, CacheAddsPlace}
use Rattle.alt_blocks.proofs.Agreeing.{agrees_on, agrees_within, agrees_adds, adds_within, given_read}
use Rattle.alt_blocks.proofs.cached.CachedDisk.read.Goals as goal

pub invariant_of-self : goal.invariant_of-self
invariant_of-self g c =
    record {
      agrees =
          λ told. agrees_within (g.D.Disk.state c.args.self.now.disk.now) c.args.self.now.cache.now
          c.recall.new.self c.recall.ensures.within
          (c.args.self.now.agrees told);
    }

pub invariant_of-self-in-Break-1 : goal.invariant_of-self-in-Break-1
invariant_of-self-in-Break-1 g c =
    let s : DiskState = g.D.Disk.state c.args.self.now.disk.now in
    let t : DiskState = g.D.Disk.state c.read.new.self in
    record {
      agrees =
          agrees_on s t c.recall.new.self
          (λ told. agrees_within s c.args.self.now.cache.now c.recall.new.self
          c.recall.ensures.within (c.args.self.now.agrees told))
          c.read.ensures.call.call.goes.tells (λ told. (c.read.ensures.same told).file);
    }

pub invariant_of-self-in-None : goal.invariant_of-self-in-None
invariant_of-self-in-None g c =
    let s : DiskState = g.D.Disk.state c.args.self.now.disk.now in
    let t : DiskState = g.D.Disk.state c.read.new.self in
    let f = c.args.f in
    let at = c.args.at in
    record {
      agrees = λ told.
          let told_s : IsTrue s.tells =
          subst (λ (v : Bool). IsTrue v) c.read.ensures.call.call.goes.tells told in
          let same : contents s f ≡ contents t f =
          sym (ap bytes_or_none ((c.read.ensures.same told_s).file f)) in
          let long : length c.recall.new.buf ≡ length c.read.new.buf =
          omega (arith, c.read.auto.buf) in
          let place : ReadPlace = (f, at, length c.read.new.buf) in
          agrees_adds t c.recall.new.self c.keep.new.self place
          (take c.in_ok-count-in-None.count c.read.new.buf) c.keep.ensures.adds
          (given_read (contents s f) c.recall.new.buf c.read.new.buf at c.in_ok-count-in-None.count
          (c.in_ok-count-in-None.ensures.bytes told_s)
          ∙ (λ j. take (long j) (drop at (same j))))
          (agrees_on s t c.recall.new.self
          (λ told. agrees_within s c.args.self.now.cache.now c.recall.new.self
          c.recall.ensures.within (c.args.self.now.agrees told))
          c.read.ensures.call.call.goes.tells (λ told. (c.read.ensures.same told).file) told);
    }

pub returns-in-Some-clause-bytes : goal.returns-in-Some-clause-bytes
returns-in-Some-clause-bytes g c =
    λ told. c.in-Some.ensures.hit (g.D.Disk.state c.args.self.now.disk.now)
    (c.args.self.now.agrees told)

pub returns-in_ok-count-in-None-clause-adds : goal.returns-in_ok-count-in-None-clause-adds
returns-in_ok-count-in-None-clause-adds g c =
    let long : length c.recall.new.buf ≡ length c.args.buf.now = omega (arith, c.recall.auto.buf) in
    let size : length c.read.new.buf ≡ length c.args.buf.now =
    omega (arith, c.read.auto.buf, long) in
    subst (λ (n : ℕ). CacheAddsPlace c.args.self.now.cache.now c.keep.new.self (c.args.f, c.args.at, n)
    (take c.in_ok-count-in-None.count c.read.new.buf)) size
    (adds_within c.args.self.now.cache.now c.recall.new.self c.keep.new.self
    (c.args.f, c.args.at, length c.read.new.buf)
    (take c.in_ok-count-in-None.count c.read.new.buf) c.recall.ensures.within
    c.keep.ensures.adds)
