use Rattle.std.proofs.Common.{inl}
use Rattle.alt_host.proofs.streams.HostShellShell.say.Goals as goal

pub returns-then-self-clause-said : goal.returns-then-self-clause-said
returns-then-self-clause-said g c = inl (0, tt)

pub returns-in_default-clause-said : goal.returns-in_default-clause-said
returns-in_default-clause-said g c = inl (0, tt)
