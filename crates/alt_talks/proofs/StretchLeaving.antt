-- What a stop leaves within a stretch of calls, behind another stretch, and in that of one turn.
use Rattle.std.proofs.Common.{◌≡◌, ◌≤◌, ◌<◌, ⊎_elim, ℕ, List, [], ◌∷◌, refl, sym, ap, subst, ◌∙◌, arith, append-nil}
use Rattle.std.specs.Prelude.{⊤}
use Rattle.std.proofs.lemmas.Bool.{cases_lt}
use Rattle.alt_disk.specs.Fates.{Fates, Fits}
use Rattle.alt_disk.specs.Disk.{DiskState, IsTrusted, IsImage}
use Rattle.alt_disk.specs.Runs.{Spans}
use Rattle.alt_machine.specs.Outcomes.{last_state}
use Rattle.alt_machine.specs.State.{State}
use Rattle.alt_base.specs.Prefix.{IsPrefix}
use Rattle.alt_shell.specs.Calls.{Aside, Keeps}
use Rattle.alt_shell.proofs.Keeping.{keeps-none}
use Rattle.alt_shell.specs.Log.{Log, until, said_in}
use Rattle.alt_talks.specs.Turns.{answered_turns, Turn, turns_text}
use Rattle.alt_talks.specs.Stops.{Image, StandsBehind, IsLeft, IsAmong, IsUncut, AtEach, AreWithin}
use Rattle.alt_tables.specs.Images.{StandsFor}
use Rattle.alt_talks.proofs.Stopping.{until-before, AllSay, answered-none, answered-prefix, stands-fewer, stands-one, stands-uncut, trusts-kept}

-- ---- stretches

-- two stretches that meet: the entries of each ended in it
pub record Meet (a b c : DiskState) (es fs : Log) : Type 0 where
  pub before : AreWithin a.moment b.moment es
  pub behind : AreWithin b.moment c.moment fs
  pub trusts : IsTrusted a → IsTrusted b

-- what is left may be told with less
pub leaves-weaker : (a b : DiskState) (P Q : ℕ → Image → Type 0)
    → ((t : ℕ) (image : Image) → P t image → Q t image) → AtEach a b P → AtEach a b Q
leaves-weaker a b P Q weaker leaves trusted =
    let p = leaves trusted in
    record {
      later = p.later;
      past = p.past;
      file = λ g outside. absurd (outside tt);
      fates = λ t g outside low high. absurd (outside tt);
      each = λ t image low high is_image. weaker t image (p.each t image low high is_image);
    }

-- one stretch and then another
pub spans_two : (a b c : DiskState) (P Q R : ℕ → Image → Type 0)
    → Spans a b (λ _. ⊤) P → Spans b c (λ _. ⊤) Q
    → ((t : ℕ) (image : Image) → t < b.moment → P t image → R t image)
    → ((t : ℕ) (image : Image) → b.moment ≤ t → Q t image → R t image)
    → Spans a c (λ _. ⊤) R
spans_two a b c P Q R first then front behind = record {
  later = omega (arith, first.later, then.later);
  past = λ t g le. then.past t g (omega (arith, le, first.later)) ∙ first.past t g le;
  file = λ g outside. absurd (outside tt);
  fates = λ t g outside low high. absurd (outside tt);
  each = λ t image low high is_image. ⊎_elim
      (λ (before : t < b.moment). front t image before (first.each t image low (omega (arith, before))
      (λ f. subst (λ (s : Fates). Fits s (image f)) (then.past t f (omega (arith, before)))
      (is_image f))))
      (λ (from : b.moment ≤ t). behind t image from (then.each t image from high is_image))
      (cases_lt t b.moment);
}

-- a note or a look at the clock in front
pub leaves-behind-aside : (a b c : DiskState) (P : ℕ → Image → Type 0) → Aside a b → AtEach b c P
    → AtEach a c P
leaves-behind-aside a b c P aside leaves trusted =
    let then = leaves (trusts-kept a b aside.keeps trusted) in
    let same = aside.moment in
    record {
      later = omega (arith, same, then.later);
      past = λ t g le. then.past t g (omega (arith, le, same)) ∙ aside.keeps.past t g le;
      file = λ g outside. absurd (outside tt);
      fates = λ t g outside low high. absurd (outside tt);
      each = λ t image low high is_image. then.each t image (omega (arith, low, same)) high is_image;
    }

-- or behind
pub leaves-before-aside : (a b c : DiskState) (P : ℕ → Image → Type 0) → Aside b c → AtEach a b P
    → AtEach a c P
leaves-before-aside a b c P aside leaves trusted =
    let first = leaves trusted in
    let same = aside.moment in
    record {
      later = omega (arith, same, first.later);
      past = λ t g le. aside.keeps.past t g (omega (arith, le, first.later)) ∙ first.past t g le;
      file = λ g outside. absurd (outside tt);
      fates = λ t g outside low high. absurd (outside tt);
      each = λ t image low high is_image.
          let before : t ≤ b.moment = omega (arith, high, same) in
          first.each t image low before
          (λ f. subst (λ (x : Fates). Fits x (image f)) (aside.keeps.past t f before) (is_image f));
    }

-- a call that leaves all files leaves what a stop left before it
pub keeps-spans : (a b : DiskState) (P : ℕ → Image → Type 0) → Keeps a b
    → ((t : ℕ) (image : Image) → a.moment ≤ t → IsImage a a.moment image → P t image)
    → Spans a b (λ _. ⊤) P
keeps-spans a b P keeps here = record {
  later = keeps.later;
  past = keeps.past;
  file = λ g outside. absurd (outside tt);
  fates = λ t g outside low high. absurd (outside tt);
  each = λ t image low high is_image. here t image low
      (λ f. subst (λ (x : Fates). Fits x (image f)) (keeps.fates t f low high) (is_image f));
}

-- at one moment
pub leaves-here : (a : DiskState) (P : ℕ → Image → Type 0)
    → (IsTrusted a → (t : ℕ) (image : Image) → IsImage a a.moment image → P t image)
    → AtEach a a P
leaves-here a P here trusted = keeps-spans a a P (keeps-none a)
    (λ t image low is_image. here trusted t image is_image)

-- ---- one turn

module _ (s : State) (vs : List Turn) (t : Turn) (one : vs ≡ t ∷ []) (say : AllSay vs) where
  -- nothing was said of it
  pub left-unsaid : (said : List ℕ) (image : Image) → said ≡ [] → IsUncut image s t.atoms
      → IsLeft s vs said image
  left-unsaid said image none p = record {
    behind = subst (StandsBehind image s vs) (sym (ap (answered_turns vs) none ∙ answered-none vs say))
        (subst (λ us. StandsBehind image s us []) (sym one) (stands-uncut image s t p));
    front = subst (λ (bs : List ℕ). IsPrefix bs (turns_text vs)) (sym none) (turns_text vs, refl);
  }

  -- it is there, and some of what the server does by itself behind it
  pub left-followed : (said : List ℕ) (image : Image) → IsPrefix said t.text
      → IsAmong image (last_state s t.atoms) t.own → IsLeft s vs said image
  left-followed said image front p = record {
    behind = stands-fewer image s vs (answered_turns vs said) vs (answered-prefix vs said)
        (subst (λ us. StandsBehind image s us us) (sym one) (stands-one image s t p));
    front = subst (IsPrefix said) (sym (ap turns_text one ∙ append-nil t.text)) front;
  }

  -- none of those yet
  pub left-whole : (said : List ℕ) (image : Image) → IsPrefix said t.text
      → StandsFor image (last_state s t.atoms) → IsLeft s vs said image
  left-whole said image front p = left-followed said image front (0, p)

  -- it was carried out or broken off, and nothing was said
  pub leaves-unsaid : (old new : DiskState) → AtEach old new (λ _ image. IsUncut image s t.atoms)
      → AtEach old new (λ u image. IsLeft s vs [] image)
  leaves-unsaid old new leaves trusted =
      let first = leaves trusted in
      record {
        later = first.later;
        past = first.past;
        file = λ g outside. absurd (outside tt);
        fates = λ t g outside low high. absurd (outside tt);
        each = λ u image low high is_image. left-unsaid [] image refl
            (first.each u image low high is_image);
      }

  -- it was carried out, and then some of its text was said
  pub leaves-said : (old mid new : DiskState) (es : Log)
      → AreWithin mid.moment new.moment es
      → ((u : ℕ) → IsPrefix (said_in (until u es)) t.text)
      → (IsTrusted old → IsTrusted mid)
      → AtEach old mid (λ _ image. IsUncut image s t.atoms)
      → (IsTrusted mid → (image : Image) → IsImage mid mid.moment image
      → StandsFor image (last_state s t.atoms))
      → Keeps mid new
      → AtEach old new (λ u image. IsLeft s vs (said_in (until u es)) image)
  leaves-said old mid new es within front trusts leaves stands keeps trusted =
      spans_two old mid new (λ _ image. IsUncut image s t.atoms)
      (λ _ image. StandsFor image (last_state s t.atoms))
      (λ u image. IsLeft s vs (said_in (until u es)) image)
      (leaves trusted)
      (keeps-spans mid new (λ _ image. StandsFor image (last_state s t.atoms)) keeps
      (λ u image low is_image. stands (trusts trusted) image is_image))
      (λ u image before p. left-unsaid (said_in (until u es)) image
      (ap said_in (until-before mid.moment new.moment u es within before)) p)
      (λ u image from p. left-whole (said_in (until u es)) image (front u) p)

  -- and then came what follows it
  pub leaves-followed : (old mid done new : DiskState) (es : Log)
      → AreWithin mid.moment done.moment es
      → ((u : ℕ) → IsPrefix (said_in (until u es)) t.text)
      → (IsTrusted old → IsTrusted mid)
      → AtEach old mid (λ _ image. IsUncut image s t.atoms)
      → (IsTrusted mid → (image : Image) → IsImage mid mid.moment image
      → StandsFor image (last_state s t.atoms))
      → Keeps mid done
      → AtEach done new (λ _ image. IsAmong image (last_state s t.atoms) t.own)
      → AtEach old new (λ u image. IsLeft s vs (said_in (until u es)) image)
  leaves-followed old mid done new es within front trusts leaves stands keeps follows trusted =
      spans_two old done new (λ u image. IsLeft s vs (said_in (until u es)) image)
      (λ _ image. IsAmong image (last_state s t.atoms) t.own)
      (λ u image. IsLeft s vs (said_in (until u es)) image)
      (leaves-said old mid done es within front trusts leaves stands keeps trusted)
      (follows (trusts-kept mid done keeps (trusts trusted)))
      (λ u image before p. p)
      (λ u image from p. left-followed (said_in (until u es)) image (front u) p)
