use Rattle.std.proofs.Common.{◌≡◌, ℕ, List, Bool, true, false, cond, refl, sym, ap, ◌∙◌, subst, arith}
use Rattle.alt_lines.specs.declared.feed.Cut.TheVariants.{Whole, TooLong}
use Rattle.alt_lines.specs.Lines.{Line, too_long, whole, read_line}
use Rattle.alt_lines.specs.Unread.{TellsLine}
use Rattle.alt_lines.proofs.Feeds.{read_line-long, read_line-short}
use Rattle.alt_lines.proofs.feed.read.Goals as goal
use Rattle.alt_lines.proofs.feed.read.Goals.{then-past-via-then-past, then-past-via-else-past+then-line-most}

-- a line that is too long, however it is known
long_told : (past : Bool) (read : Line) (out : List ℕ) → (past ≡ false → read ≡ too_long)
    → TellsLine (cond past too_long read) TooLong out out
long_told true read out long = (refl, refl)
long_told false read out long =
    subst (λ (l : Line). TellsLine l TooLong out out) (sym (long refl)) (refl, refl)

pub returns-then-past-clause-told : goal.returns-then-past-clause-told
returns-then-past-clause-told c =
    let line = c.args.line.now in
    long_told c.args.past (read_line c.args.most line) c.args.out.now.items
    (λ was. elim c.then-past.branch [
      | then-past-via-then-past w ↦ cc
      | then-past-via-else-past+then-line-most w ↦ read_line-long c.args.most line (omega arith)
    ])

pub returns-in-Ok-clause-told : goal.returns-in-Ok-clause-told
returns-in-Ok-clause-told c =
    let out = c.args.out.now.items in
    let line = c.args.line.now in
    let read : cond c.args.past too_long (read_line c.args.most line)
    ≡ whole c.stripped.result.now =
    ap (λ (t : Bool). cond t too_long (read_line c.args.most line)) c.if-past.false
    ∙ read_line-short c.args.most line (omega arith) ∙ ap whole (sym c.stripped.ensures) in
    subst (λ (l : Line). TellsLine l Whole out c.extend_from_slice.new.self.items) (sym read) (
      refl,
      c.in-Ok.ensures.items,
    )
