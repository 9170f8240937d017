use Rattle.std.proofs.Common.{◌∙◌, ap}
use Rattle.alt_disk.specs.Disk.{DiskState}
use Rattle.tests_store.proofs.tests.gatelog.failing_disk.Goals as goal

pub returns-in-Ok : goal.returns-in-Ok
returns-in-Ok c = ap (λ (s : DiskState). s.file 2) c.fail.ensures.stays ∙ c.new-disk.ensures.empty 2
