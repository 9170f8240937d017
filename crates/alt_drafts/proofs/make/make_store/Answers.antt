use Rattle.std.proofs.Common.{◌≡◌, ◌≢◌, ℕ, List, [], Some, sym, ap, subst, ◌∙◌, arith}
use Rattle.alt_disk.specs.Disk.{DiskState, IsTrusted, IsSettled}
use Rattle.alt_disk.proofs.Runs.{trusted_on, tells_of}
use Rattle.alt_disk.proofs.Staying.{settled_on}
use Rattle.alt_gatelog.specs.Log.{log_after, log_bytes}
use Rattle.alt_gatelog.specs.declared.form.Form.{Form}
use Rattle.alt_layout.specs.Fresh.{first_version}
use Rattle.alt_drafts.proofs.Fresh.{fresh_layout, rest_none}
use Rattle.alt_drafts.proofs.make.make_store.Goals as goal

pub returns-clause-fresh : goal.returns-clause-fresh
unfolding first_version
returns-clause-fresh g c trusted =
    let s0 : DiskState = g.D.Disk.state c.args.disk.now in
    let s1 : DiskState = g.D.Disk.state c.no_files.new.disk in
    let s2 : DiskState = g.D.Disk.state c.make.new.disk in
    let s3 : DiskState = g.D.Disk.state c.make-2.new.disk in
    let s4 : DiskState = g.D.Disk.state c.append.new.disk in
    let trusted_1 : IsTrusted s1 = trusted_on s0 s1 c.no_files.ensures.goes trusted in
    let trusted_2 : IsTrusted s2 = trusted_on s1 s2 c.make.ensures.goes trusted_1 in
    let trusted_3 : IsTrusted s3 = trusted_on s2 s3 c.make-2.ensures.goes trusted_2 in
    let log = c.in_ok-versions.versions in
    let file = c.in_ok-versions.ensures.file in
    let made = c.in_ok-versions.ensures.made trusted_2 in
    let none : List (List ℕ) = [] in
    let after = c.in_ok-append.ensures.ok trusted_3 none made.reads in
    let bytes = c.in_ok-append.ensures.bytes trusted_3 none made.reads in
    let run_3 = c.make-2.ensures.any_moment trusted_2 in
    let run_4 = c.append.ensures.others trusted_3 in
    let apart : 2 ≢ log.file = λ same. omega (arith, same, file) in
    let first = c.in_ok-make.ensures.made trusted_1 in
    let file_2 = c.in_ok-make.ensures.file in
    let rest : made.reads.rest ≡ [] = rest_none log.form (s3.file log.file) made.reads.gate made.reads.rest
    (ap (λ (f : ℕ). s3.file f) file ∙ c.in_ok-versions.ensures.bytes trusted_2) made.reads.file in
    record {
      versions = ap (λ (f : ℕ). s4.file f) (sym file) ∙ bytes
          ∙ ap (λ (r : List ℕ). Some (log_after log.form none first_version r)) rest
          ∙ ap (λ (x : Form). Some (log_after x none first_version [])) c.in_ok-versions.ensures.given;
      entries = run_4.file 2 apart ∙ run_3.file 2 (omega arith)
          ∙ c.in_ok-make.ensures.bytes trusted_1
          ∙ ap (λ (x : Form). Some (log_bytes x none 0 [])) c.in_ok-make.ensures.given;
      others = λ f not_1 not_2. run_4.file f (λ same. not_1 (same ∙ file)) ∙ run_3.file f not_1
          ∙ (c.make.ensures.any_moment trusted_1).file f not_2
          ∙ c.in-Ok.ensures.none (tells_of s0 trusted) f;
      versions_last = subst (IsSettled s4) (c.append.ensures.file ∙ file) after.settled;
      entries_last = settled_on s3 s4 log.file 2 _ run_4 apart
          (settled_on s2 s3 1 2 _ run_3 (omega arith) (subst (IsSettled s2) file_2 first.settled));
    }

pub returns-clause-images : goal.returns-clause-images
returns-clause-images g c trusted image is_image =
    fresh_layout (g.D.Disk.state c.append.new.disk)
    (returns-clause-fresh g c trusted) image is_image
