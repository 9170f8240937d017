-- A version more, by the log with an entry more.
use Rattle.std.proofs.Common.{refl, ◌∙◌}
use Rattle.alt_manifest.specs.Versions.{version_bytes}
use Rattle.alt_manifest.proofs.AppendLaws.{log_of, with_version, versions_run}
use Rattle.alt_manifest.proofs.manifest.Manifest.add.Goals as goal

pub returns-in_err-add-clause-any_moment : goal.returns-in_err-add-clause-any_moment
returns-in_err-add-clause-any_moment g c = λ trusted stands.
    versions_run _ _ c.args.self.now c.args.version (version_bytes c.args.version) refl
    (c.requires.version trusted) stands
    (c.add.ensures.any_moment trusted _ (version_bytes c.args.version) c.requires.framed
    (log_of _ c.args.self.now stands))

pub returns-clause-ok : goal.returns-clause-ok
returns-clause-ok g c = λ trusted.
    with_version _ _ _ (version_bytes c.args.version) c.args.version refl refl
    (c.requires.version trusted) (c.in_ok-add.ensures.form ∙ (c.requires.reads trusted).form)
    (c.in_ok-add.ensures.ok trusted _ (version_bytes c.args.version) c.requires.framed
    (c.requires.reads trusted).log)

pub returns-clause-any_moment : goal.returns-clause-any_moment
returns-clause-any_moment g c = λ trusted stands.
    versions_run _ _ c.args.self.now c.args.version (version_bytes c.args.version) refl
    (c.requires.version trusted) stands
    (c.add.ensures.any_moment trusted _ (version_bytes c.args.version) c.requires.framed
    (log_of _ c.args.self.now stands))
