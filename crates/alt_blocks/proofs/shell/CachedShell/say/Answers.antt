-- No file changes.
use Rattle.alt_blocks.proofs.Agreeing.{agrees_kept}
use Rattle.alt_blocks.proofs.shell.CachedShell.say.Goals as goal

pub invariant_of-self : goal.invariant_of-self
invariant_of-self g c =
    record {
      agrees =
          agrees_kept (g.S.Disk.state c.args.self.now.disk.now) (g.S.Disk.state c.say.new.self)
          c.args.self.now.cache.now c.args.self.now.agrees c.say.ensures.call.keeps;
    }
