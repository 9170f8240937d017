use Rattle.alt_http.proofs.Fronts.{go_on_plain}
use Rattle.alt_http.proofs.Continuing.{resumes}
use Rattle.alt_http.proofs.resuming.resumed.Goals as goal

pub without_head-requires : goal.without_head-requires
without_head-requires c = go_on_plain c.args.bytes.now c.in_default.ensures

pub resume-requires : goal.resume-requires
resume-requires c = resumes c.args.bytes.now c.in-Some.front.now c.in-Some-last_front.old.now
    c.args.seen c.in-Some.ensures c.requires.more c.in-Some-last_front.ensures.is_front
