-- The requests of a trial: the lines of the generator are some, and each is done behind those before it.
use Rattle.std.proofs.Common.{◌≡◌, ◌≤◌, ◌<◌, ◌+◌, ◌*◌, ⊎_elim, ℕ, inl, inr, List, [], ◌∷◌, ◌++◌, length, replicate, cond, Bool, true, false, Option, Some, None, refl, sym, ap, subst, ◌∙◌, append_assoc, arith, length-append}
use Rattle.std.specs.Prelude.{nat_le, nat_eq, ◌==◌, codes, filter}
use Rattle.std.specs.List.{starts_with, before_first, after_first}
use Rattle.std.proofs.lemmas.List.{length-replicate, replicate-append-replicate}
use Rattle.std.proofs.lemmas.List.Elements.{filter-append}
use Rattle.alt_disk.specs.Disk.{DiskState, Goes, IsTrusted}
use Rattle.alt_disk.proofs.Runs.{trusted_on}
use Rattle.alt_lines.specs.Trial.{Generator, next_line, draws}
use Rattle.alt_lines.specs.TrialTexts.{Draws, line_of_kind, put_item_line, keyed_line, update_item_line, query_line, query_index_line}
use Rattle.alt_machine.specs.State.{State}
use Rattle.alt_machine.specs.Wanted.{Lack, wanted as wanted_by}
use Rattle.alt_tables.specs.FilesLeft.{most_files}
use Rattle.alt_tables.specs.Stands.{Stands}
use Rattle.alt_tables.specs.declared.tables.Tables.{Tables}
use Rattle.alt_tables.proofs.Left.{stands_left}
use Rattle.alt_talks.specs.Faults.{IsAnswerFault, IsCausedBy, IsFileFault}
use Rattle.alt_talks.specs.Own.{FollowsNot, Own, after_behind, own_behind}
use Rattle.alt_talks.specs.Works.{Follows}
use Rattle.alt_talks.specs.Stops.{Image, StandsBehind, AtEach, IsAmong, IsUncut}
use Rattle.alt_run.specs.Trials.{trial_moment, trial_turns, beginning, TriesFor}
use Rattle.alt_run.specs.private.Tallies.{IsTally, Counted, CountedSome}
use Rattle.alt_run.specs.Turns.{AskedLine, request, control_of, asked_as, asked_by, is_space, carried_out, outcome_by_name, turns_of_lines, requests}
use Rattle.alt_run.specs.private.Rungs.{left_by_named_request}
use Rattle.alt_talks.specs.Turns.{Turn, WritesLast, after, wanted_by_turns, or_next}
use Rattle.alt_talks.specs.declared.fault.RunFault.{RunFault}
use Rattle.alt_talks.specs.declared.fault.RunFault.TheVariants.{NoMemory}
use Rattle.alt_run.specs.declared.tally.Tally.{Tally}
use Rattle.alt_talks.proofs.Stopping.{stands-behind, stands-more, stands-fewer, stands-none, stands-one, stands-uncut}
use Rattle.alt_talks.proofs.StretchLeaving.{leaves-weaker, leaves-here, spans_two}
use Rattle.alt_talks.proofs.FileFaults.{file_more}
use Rattle.alt_talks.proofs.Owning.{answer_behind, answer_first, enough_both}
use Rattle.alt_run.proofs.TurnLaws.{requests-append, turns-append}
use Rattle.alt_talks.proofs.TurnLaws.{after-append, wanted-append, writes_behind, writes_one}

-- ---- what is counted

-- one where it is so
abbrev pub one_where : Bool → ℕ
one_where b = cond b 1 0

one_counted : (b : Bool) (t : Turn) → length (cond b (t ∷ []) []) ≡ one_where b
one_counted true t = refl
one_counted false t = refl

-- one turn more
pub beginning_more : (front : List ℕ) (ts : List Turn) (t : Turn)
    → length (beginning front (ts ++ t ∷ []))
    ≡ length (beginning front ts) + one_where (starts_with nat_eq t.text front)
beginning_more front ts t =
    let p : Turn → Bool = λ u. starts_with nat_eq u.text front in
    ap length (filter-append p ts (t ∷ []))
    ∙ length-append (filter p ts) (filter p (t ∷ []))
    ∙ ap (λ n. length (filter p ts) + n) (one_counted (p t) t)

-- ---- the lines of the generator are requests

no_kind : (kind : ℕ) (d : Draws) → control_of (line_of_kind kind d) ≡ None
unfolding line_of_kind
no_kind kind d = by_tests (nat_le kind 3) (kind == 4) (nat_le kind 6) (kind == 7) (kind == 8)
  where
    by_tests : (a b c e f : Bool) → control_of (cond a (put_item_line d)
        (cond b (keyed_line (codes "DeleteItem") d)
        (cond c (update_item_line d)
        (cond e (keyed_line (codes "GetItem") d)
        (cond f (query_line d) (query_index_line d)))))) ≡ None
    by_tests true b c e f = refl
    by_tests false true c e f = refl
    by_tests false false true e f = refl
    by_tests false false false true f = refl
    by_tests false false false false true = refl
    by_tests false false false false false = refl

no_word : (g : Generator) → control_of (next_line g) ≡ None
no_word g = elim g.first as (λ b. control_of (next_line (record { first = b; number = g.number }))
    ≡ None) [
      | true ↦ refl
      | false ↦ no_kind (draws g.number).kind (draws g.number)
    ]

-- a line of the generator asks for a request
pub asked_next : (g : Generator) → asked_by (next_line g)
    ≡ request (before_first is_space (next_line g)) (after_first is_space (next_line g))
asked_next g = ap (asked_as (next_line g)) (no_word g)

-- ---- turns, and then more of them

pub turns_then : (s : State) (ls ks : List AskedLine)
    → trial_turns s (ls ++ ks) ≡ trial_turns s ls ++ trial_turns (after s (trial_turns s ls)) ks
turns_then s ls ks =
    ap (turns_of_lines s (ls ++ ks)) (ap (λ n. replicate n trial_moment) (requests-append ls ks)
    ∙ sym (replicate-append-replicate (requests ls) (requests ks) trial_moment))
    ∙ turns-append s ls ks (replicate (requests ls) trial_moment) (replicate (requests ks) trial_moment)
    (length-replicate (requests ls) trial_moment)

-- none of the turns needs to be done
pub stands-any : (image : Image) (s : State) (ts least : List Turn) → StandsBehind image s ts least
    → StandsBehind image s ts []
stands-any image s ts least x = stands-fewer image s ts [] least (least, refl) x

-- ---- requests, and then more of them

-- the state behind requests
abbrev pub reached_by : State → List AskedLine → State
reached_by s ls = after s (trial_turns s ls)

module _ (a b c : DiskState) (t1 : Tables) (s : State) (ls ks : List AskedLine) (x y : Tally)
    (goes : Goes a b) (p : Counted s ls x y a b t1) where
  wanted_both : wanted_by_turns (trial_turns s (ls ++ ks)) ≡ wanted_by_turns (trial_turns (reached_by s ls) ks)
  wanted_both = ap wanted_by_turns (turns_then s ls ks)
      ∙ wanted-append (trial_turns s ls) (trial_turns (reached_by s ls) ks) p.enough

  leaves_both : AtEach b c (λ _ image. StandsBehind image (reached_by s ls) (trial_turns (reached_by s ls) ks) [])
      → AtEach a c (λ _ image. StandsBehind image s (trial_turns s (ls ++ ks)) [])
  leaves_both q trusted = spans_two a b c (λ _ image. StandsBehind image s (trial_turns s ls) [])
      (λ _ image. StandsBehind image (reached_by s ls) (trial_turns (reached_by s ls) ks) [])
      (λ _ image. StandsBehind image s (trial_turns s (ls ++ ks)) [])
      (p.leaves trusted) (q (trusted_on a b goes trusted))
      (λ n image before h. subst (λ (ts : List Turn). StandsBehind image s ts []) (sym (turns_then s ls ks))
      (stands-more image s (trial_turns s ls) (trial_turns (reached_by s ls) ks) [] h))
      (λ n image from h. subst (λ (ts : List Turn). StandsBehind image s ts []) (sym (turns_then s ls ks))
      (stands-any image s (trial_turns s ls ++ trial_turns (reached_by s ls) ks) (trial_turns s ls ++ [])
      (stands-behind image s (trial_turns s ls) (trial_turns (reached_by s ls) ks) [] h)))

  pub counted_then : (t2 : Tables) (z : Tally) → Counted (reached_by s ls) ks y z b c t2
      → Counted s (ls ++ ks) x z a c t2
  counted_then t2 z q = record {
    stands = subst (λ (r : State). Stands c t2 r)
        (sym (ap (after s) (turns_then s ls ks)
        ∙ after-append s (trial_turns s ls) (trial_turns (reached_by s ls) ks)))
        q.stands;
    enough = wanted_both ∙ q.enough;
    counts = λ ts h. subst (λ (us : List Turn). IsTally z us)
        (append_assoc ts (trial_turns s ls) (trial_turns (reached_by s ls) ks)
        ∙ ap (λ us. ts ++ us) (sym (turns_then s ls ks)))
        (q.counts (ts ++ trial_turns s ls) (p.counts ts h));
    leaves = leaves_both q.leaves;
  }

  wanted_begun : (begun : List AskedLine)
      → wanted_by_turns (trial_turns s (ls ++ begun)) ≡ wanted_by_turns (trial_turns (reached_by s ls) begun)
  wanted_begun begun = ap wanted_by_turns (turns_then s ls begun)
      ∙ wanted-append (trial_turns s ls) (trial_turns (reached_by s ls) begun) p.enough

  tries_for : (fault : RunFault) (next then : ℕ) → then ≤ next + length ls * most_files
      → (begun : List AskedLine) → TriesFor fault then (reached_by s ls) begun
      → TriesFor fault next s (ls ++ begun)
  tries_for fault next then low begun why = ⊎_elim
      (λ cause. inl (subst (λ (w : Option Lack). IsCausedBy w fault) (sym (wanted_begun begun)) cause))
      (λ work. inr (
        file_more fault (then + length begun * most_files)
            (next + length (ls ++ begun) * most_files)
            (let l = length-append ls begun in omega (arith, l, low)) work.0,
        ⊎_elim
            (λ (w : WritesLast (trial_turns (reached_by s ls) begun)).
            inl (subst (λ (ts : List Turn). WritesLast ts) (sym (turns_then s ls begun))
            (writes_behind (trial_turns s ls) (trial_turns (reached_by s ls) begun) p.enough w)))
            (λ (at : (wanted_by_turns (trial_turns (reached_by s ls) begun) ≡ None) × (0 < length begun)). inr (
              wanted_begun begun ∙ at.0,
              let l = length-append ls begun in let some = at.1 in omega (arith, l, some),
            ))
            work.1,
      ))
      why

  pub counted_break : (fault : RunFault) (next then : ℕ) → then ≤ next + length ls * most_files
      → CountedSome fault then (reached_by s ls) ks b c → CountedSome fault next s (ls ++ ks) a c
  counted_break fault next then low q = record {
    begun = ls ++ q.begun;
    rest = q.rest;
    lines = ap (λ xs. ls ++ xs) q.lines ∙ sym (append_assoc ls q.begun q.rest);
    wants = tries_for fault next then low q.begun q.wants;
    leaves = leaves_both q.leaves;
  }

-- ---- one request

lacked_alone : (fault : RunFault) (lack : Option Lack) → IsCausedBy lack fault
    → IsCausedBy (or_next lack None) fault
lacked_alone fault None h = h
lacked_alone fault (Some x) h = h

-- its turn
abbrev pub one_turn : State → List ℕ → List ℕ → List Turn
one_turn s name body = carried_out s name body trial_moment ∷ []

module _ (a b : DiskState) (s : State) (name body : List ℕ)
    (leaves : AtEach a b (λ _ image. IsUncut image s (carried_out s name body trial_moment).atoms)) where
  -- it broke off
  pub one_broke : (fault : RunFault) (next : ℕ)
      → IsAnswerFault next (wanted_by s (outcome_by_name s name body trial_moment))
      (outcome_by_name s name body trial_moment).atoms fault
      → CountedSome fault next s (request name body ∷ []) a b
  one_broke fault next cause = record {
    begun = request name body ∷ [];
    rest = [];
    lines = refl;
    wants = ⊎_elim
        (λ (lack : IsCausedBy lacks fault). inl (lacked_alone fault lacks lack))
        (λ (last : (alone ≡ None) × (1 ≤ length atoms) × IsFileFault next fault). inr (
          file_more fault next (next + 1 * most_files) (omega arith) last.2,
          inl (writes_one (carried_out s name body trial_moment) (inl (last.0, last.1))),
        ))
        (answer_first next alone (own_behind (left_by_named_request s name body trial_moment)).lacks atoms fault cause);
    leaves = leaves-weaker a b
        (λ _ image. IsUncut image s (carried_out s name body trial_moment).atoms)
        (λ _ image. StandsBehind image s (one_turn s name body) [])
        (λ u image h. stands-uncut image s (carried_out s name body trial_moment) h) leaves;
  }
    where
      alone : Option Lack
      alone = wanted_by s (outcome_by_name s name body trial_moment)

      lacks : Option Lack
      lacks = (carried_out s name body trial_moment).lacks

      atoms : List State
      atoms = (carried_out s name body trial_moment).atoms

-- it was carried out, and its reply counted
module _ (a b c : DiskState) (s : State) (name body : List ℕ)
    (leaves : AtEach a b (λ _ image. IsUncut image s (carried_out s name body trial_moment).atoms))
    (trusts : IsTrusted a → IsTrusted b)
    (follows : Follows b c (left_by_named_request s name body trial_moment)
    (own_behind (left_by_named_request s name body trial_moment)).atoms)
    (enough : wanted_by s (outcome_by_name s name body trial_moment) ≡ None) where
  leaves_followed : AtEach a c (λ _ image. StandsBehind image s (one_turn s name body) [])
  leaves_followed trusted =
      spans_two a b c (λ _ image. IsUncut image s (carried_out s name body trial_moment).atoms)
      (λ _ image. IsAmong image (left_by_named_request s name body trial_moment)
      (own_behind (left_by_named_request s name body trial_moment)).atoms)
      (λ _ image. StandsBehind image s (one_turn s name body) [])
      (leaves trusted) (follows.leaves (trusts trusted))
      (λ u image before h. stands-uncut image s (carried_out s name body trial_moment) h)
      (λ u image from h. stands-any image s (one_turn s name body) (one_turn s name body)
      (stands-one image s (carried_out s name body trial_moment) h))

  -- what follows it was done
  pub one_done : (tables : Tables) (x y : Tally)
      → (own_behind (left_by_named_request s name body trial_moment)).lacks ≡ None
      → Stands c tables (after_behind (left_by_named_request s name body trial_moment))
      → ((ts : List Turn) → IsTally x ts → IsTally y (ts ++ carried_out s name body trial_moment ∷ []))
      → Counted s (request name body ∷ []) x y a c tables
  one_done tables x y own stands counts = record {
    stands = stands;
    enough = ap (λ w. or_next w None) (enough_both _ _ enough own);
    counts = counts;
    leaves = leaves_followed;
  }

  -- or it broke off
  pub one_followed_some : (fault : RunFault) (next : ℕ)
      → FollowsNot true next (own_behind (left_by_named_request s name body trial_moment)) fault
      → CountedSome fault next s (request name body ∷ []) a c
  one_followed_some fault next why = record {
    begun = request name body ∷ [];
    rest = [];
    lines = refl;
    wants = ⊎_elim
        (λ own. ⊎_elim
        (λ (lack : IsCausedBy turn.lacks fault). inl (lacked_alone fault turn.lacks lack))
        (λ (last : (turn.lacks ≡ None) × (1 ≤ length turn.own) × IsFileFault next fault). inr (
          file_more fault next (next + 1 * most_files) (omega arith) last.2,
          inl (writes_one turn (inr (last.0, last.1))),
        ))
        (answer_behind next (wanted_by s (outcome_by_name s name body trial_moment)) behind.lacks behind.atoms
        fault enough own))
        (λ work. inr (
          file_more fault (next + most_files) (next + 1 * most_files) (omega arith) work.2,
          inr (ap (λ w. or_next w None) (enough_both _ _ enough work.1), omega arith),
        ))
        why;
    leaves = leaves_followed;
  }
    where
      turn : Turn
      turn = carried_out s name body trial_moment

      behind : Own
      behind = own_behind (left_by_named_request s name body trial_moment)

-- none was begun for want of memory
pub none_begun : (a : DiskState) (tables : Tables) (next : ℕ) (s : State) (ls : List AskedLine)
    → Stands a tables s → CountedSome NoMemory next s ls a a
none_begun a tables next s ls stands = record {
  begun = [];
  rest = ls;
  lines = refl;
  wants = inl tt;
  leaves = leaves-here a (λ _ image. StandsBehind image s (trial_turns s ls) [])
      (λ trusted t image is_image.
      stands-none image s (trial_turns s ls) (stands_left a tables s stands image is_image));
}

-- what a line of the generator asks for, by its parts
pub asked_parts : (g : Generator) (line : List ℕ) → line ≡ next_line g
    → request (before_first is_space line) (after_first is_space line) ≡ asked_by (next_line g)
asked_parts g line is =
    ap (λ (bs : List ℕ). request (before_first is_space bs) (after_first is_space bs)) is
    ∙ sym (asked_next g)

-- a break among requests is one among these and more
pub counted_some_more : (a b : DiskState) (fault : RunFault) (next : ℕ) (s : State)
    (ls ks : List AskedLine)
    → CountedSome fault next s ls a b → CountedSome fault next s (ls ++ ks) a b
counted_some_more a b fault next s ls ks q =
    let us = trial_turns (after s (trial_turns s ls)) ks in
    record {
      begun = q.begun;
      rest = q.rest ++ ks;
      lines = ap (λ xs. xs ++ ks) q.lines ∙ append_assoc q.begun q.rest ks;
      wants = q.wants;
      leaves = leaves-weaker a b (λ _ image. StandsBehind image s (trial_turns s ls) [])
          (λ _ image. StandsBehind image s (trial_turns s (ls ++ ks)) [])
          (λ t image h. subst (λ (ts : List Turn). StandsBehind image s ts []) (sym (turns_then s ls ks))
          (stands-more image s (trial_turns s ls) us [] h)) q.leaves;
    }
