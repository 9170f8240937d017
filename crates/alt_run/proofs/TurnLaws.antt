-- The turns of lines, one list of lines after another.
use Rattle.std.proofs.Common.{◌≡◌, ◌+◌, ℕ, Option, None, Some, List, [], ◌∷◌, ◌++◌, length, refl, ap, arith, length-append, ◌<◌, sym, subst}
use Rattle.std.proofs.Math.Nat.{suc_inj}
use Rattle.alt_machine.specs.State.{State}
use Rattle.alt_talks.specs.Turns.{Turn, after, after_turn}
use Rattle.alt_run.specs.Turns.{AskedLine, request, control, unread, turns_of_lines, obeyed, turned_away, carried_out, requests, tasks, asked_as}
use Rattle.alt_run.specs.declared.lines.Control.{Control}
use Rattle.alt_talks.specs.Stops.{Image, IsLeft}
use Rattle.alt_tables.specs.Images.{StandsFor}
use Rattle.alt_talks.proofs.Stopping.{AllSay, left-nothing-of}

-- requests of lines and more lines
pub requests-append : (ls ks : List AskedLine) → requests (ls ++ ks) ≡ requests ls + requests ks
requests-append [] ks = omega arith
requests-append (request name body ∷ ls) ks = let h = requests-append ls ks in omega (arith, h)
requests-append (control word ∷ ls) ks = requests-append ls ks
requests-append (unread ∷ ls) ks = requests-append ls ks

-- tasks of lines and more lines
pub tasks-append : (ls ks : List AskedLine) → tasks (ls ++ ks) ≡ tasks ls + tasks ks
tasks-append [] ks = omega arith
tasks-append (request name body ∷ ls) ks = let h = tasks-append ls ks in omega (arith, h)
tasks-append (control word ∷ ls) ks = let h = tasks-append ls ks in omega (arith, h)
tasks-append (unread ∷ ls) ks = tasks-append ls ks

-- a line that is read has one
pub one_task : (text : List ℕ) (word : Option Control) → tasks (asked_as text word ∷ []) ≡ 1
one_task text None = refl
one_task text (Some word) = refl

-- the turns of lines and more lines are those of the first, and then those of the others from the state that the first left
pub turns-append : (s : State) (ls ks : List AskedLine) (ms ns : List ℕ) → length ms ≡ requests ls
    → turns_of_lines s (ls ++ ks) (ms ++ ns) ≡ turns_of_lines s ls ms ++ turns_of_lines (after s (turns_of_lines s ls ms)) ks ns
turns-append s [] ks [] ns e = refl
turns-append s [] ks (m ∷ ms) ns e = absurd (omega arith)
turns-append s (request name body ∷ ls) ks [] ns e = absurd (omega arith)
turns-append s (request name body ∷ ls) ks (m ∷ ms) ns e =
    ap (λ ts. carried_out s name body m ∷ ts)
    (turns-append (after_turn s (carried_out s name body m)) ls ks ms ns (suc_inj e))
turns-append s (control word ∷ ls) ks ms ns e =
    ap (λ ts. obeyed ∷ ts) (turns-append s ls ks ms ns e)
turns-append s (unread ∷ ls) ks ms ns e = ap (λ ts. turned_away ∷ ts) (turns-append s ls ks ms ns e)

-- ---- turns say something

line_says : (front bytes : List ℕ) → 0 < length (front ++ (32 ∷ bytes))
line_says front bytes = let e = length-append front (32 ∷ bytes) in omega (arith, e)

-- so do those of any lines
pub turns_say : (s : State) (ls : List AskedLine) (ms : List ℕ) → AllSay (turns_of_lines s ls ms)
turns_say s [] ms = tt
turns_say s (request name body ∷ ls) [] = tt
turns_say s (request name body ∷ ls) (m ∷ ms) = (
  line_says _ _,
  turns_say (after_turn s (carried_out s name body m)) ls ms,
)
turns_say s (control word ∷ ls) ms = (omega arith, turns_say s ls ms)
turns_say s (unread ∷ ls) ms = (omega arith, turns_say s ls ms)

-- ---- what is left

pub left-nothing : (s : State) (ls : List AskedLine) (ms : List ℕ) (image : Image)
    → StandsFor image s → IsLeft s (turns_of_lines s ls ms) [] image
left-nothing s ls ms image stands =
    left-nothing-of s (turns_of_lines s ls ms) image (turns_say s ls ms) stands

pub left-nothing-said : (s : State) (ls : List AskedLine) (ms : List ℕ) (said : List ℕ) (image : Image)
    → said ≡ [] → StandsFor image s → IsLeft s (turns_of_lines s ls ms) said image
left-nothing-said s ls ms said image none stands =
    subst (λ (bs : List ℕ). IsLeft s (turns_of_lines s ls ms) bs image) (sym none)
    (left-nothing s ls ms image stands)

-- the turns of lines begin those of more lines and more moments
pub turns-more : (s : State) (ls ks : List AskedLine) (ms ns : List ℕ)
    → (us : List Turn) × AllSay us × (turns_of_lines s (ls ++ ks) (ms ++ ns) ≡ turns_of_lines s ls ms ++ us)
turns-more s [] ks ms ns = (turns_of_lines s ks (ms ++ ns), turns_say s ks (ms ++ ns), refl)
turns-more s (request name body ∷ ls) ks [] ns = (
  turns_of_lines s (request name body ∷ (ls ++ ks)) ns,
  turns_say s (request name body ∷ (ls ++ ks)) ns,
  refl,
)
turns-more s (request name body ∷ ls) ks (m ∷ ms) ns =
    let t = carried_out s name body m in
    let more = turns-more (after_turn s t) ls ks ms ns in
    (more.0, more.1, ap (λ ts. t ∷ ts) more.2)
turns-more s (control word ∷ ls) ks ms ns =
    let more = turns-more s ls ks ms ns in
    (more.0, more.1, ap (λ ts. obeyed ∷ ts) more.2)
turns-more s (unread ∷ ls) ks ms ns =
    let more = turns-more s ls ks ms ns in
    (more.0, more.1, ap (λ ts. turned_away ∷ ts) more.2)
