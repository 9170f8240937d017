-- What stands and is left where a stop falls among turns, one list of turns after another.
use Rattle.std.proofs.Common.{◌≡◌, ◌≤◌, ◌<◌, inl, inr, ℕ, List, [], ◌∷◌, ◌++◌, cond, length, drop, Bool, true, false, ◌&&◌, IsTrue, refl, sym, ap, subst, ◌∙◌, arith, length-append, length-drop, append_assoc, append-nil}
use Rattle.std.specs.Prelude.{nat_le, ◌||◌}
use Rattle.std.proofs.lemmas.Bool.{le-leb, or_parts}
use Rattle.std.proofs.lemmas.List.Elements.{filter-append}
use Rattle.std.proofs.Math.Seq.{take-length, drop-append_seam}
use Rattle.alt_disk.specs.Disk.{DiskState, IsTrusted}
use Rattle.alt_machine.specs.Outcomes.{last_state}
use Rattle.alt_machine.specs.State.{State}
use Rattle.alt_base.specs.Prefix.{IsPrefix}
use Rattle.alt_base.proofs.Lists.{length-none}
use Rattle.alt_base.proofs.Prefixes.{prefix_trans}
use Rattle.alt_shell.specs.Calls.{Keeps}
use Rattle.alt_shell.specs.Log.{Log, until, said_in, taken, ended, event_of, bytes_said, bytes_taken, is_end}
use Rattle.alt_talks.specs.Turns.{answered_turns, Turn, turns_text, after, after_turn}
use Rattle.alt_talks.specs.Stops.{Image, state_behind, StandsBehind, IsLeft, IsAmong, IsUncut, AreWithin}
use Rattle.alt_tables.specs.Images.{StandsFor}
use Rattle.alt_tables.specs.Stands.{AreReady, Stands}
use Rattle.alt_tables.proofs.Left.{stands_quiet}
use Rattle.alt_tables.specs.declared.tables.Tables.{Tables}
use Rattle.alt_talks.proofs.TurnLaws.{text_of-append}

-- ---- prefixes

pub IsPrefix-self : {A : Type 0} (xs : List A) → IsPrefix xs xs
IsPrefix-self xs = ([], sym (append-nil xs))

pub IsPrefix-behind : {A : Type 0} (front xs ys : List A) → IsPrefix xs ys
    → IsPrefix (front ++ xs) (front ++ ys)
IsPrefix-behind front xs ys p = (p.0, ap (λ zs. front ++ zs) p.1 ∙ sym (append_assoc front xs p.0))

pub IsPrefix-longer : {A : Type 0} (xs ys zs : List A) → IsPrefix xs ys → IsPrefix xs (ys ++ zs)
IsPrefix-longer xs ys zs p = (p.0 ++ zs, ap (λ ws. ws ++ zs) p.1 ∙ append_assoc xs p.0 zs)

-- a front isn't longer
pub prefix-within : {A : Type 0} (xs ys : List A) → IsPrefix xs ys → length xs ≤ length ys
prefix-within xs ys p = let e = ap length p.1 in let l = length-append xs p.0 in omega (arith, e, l)

-- ---- entries and moments

-- no entry had come by a moment before them
pub until-before : (from to t : ℕ) (es : Log) → AreWithin from to es → t < from → until t es ≡ []
until-before from to t [] w le = refl
until-before from to t (e ∷ es) w le = grind (arith, w, le, until-before from to t es w.2 le)

-- and all had by a moment from their end on
pub until-behind : (from to t : ℕ) (es : Log) → AreWithin from to es → to ≤ t → until t es ≡ es
until-behind from to t [] w le = refl
until-behind from to t (e ∷ es) w le = grind (arith, w, le, until-behind from to t es w.2 le)

pub until-append : (t : ℕ) (es fs : Log) → until t (es ++ fs) ≡ until t es ++ until t fs
until-append t es fs = filter-append (λ (e : ℕ × List ℕ). nat_le e.0 t) es fs

-- no more was said by a moment than at last
pub said-by : (t : ℕ) (es : Log) → length (said_in (until t es)) ≤ length (said_in es)
said-by t [] = omega arith
said-by t (e ∷ es) = by_test (said-by t es) (nat_le e.0 t)
  where
    by_test : (h : length (said_in (until t es)) ≤ length (said_in es)) (b : Bool) → length (said_in (cond b (e ∷ until t es) (until t es)))
        ≤ length (bytes_said (event_of e.1) ++ said_in es)
    by_test h true =
        let l = length-append (bytes_said (event_of e.1)) (said_in (until t es)) in
        let r = length-append (bytes_said (event_of e.1)) (said_in es) in
        omega (arith, h, l, r)
    by_test h false =
        let r = length-append (bytes_said (event_of e.1)) (said_in es) in
        omega (arith, h, r)

-- of one call nothing was said by a moment, or all that it said
pub one-by : (e : ℕ × List ℕ) (text : List ℕ) → IsPrefix (said_in (e ∷ [])) text → (t : ℕ)
    → IsPrefix (said_in (until t (e ∷ []))) text
one-by e text p t = by_test (nat_le e.0 t)
  where
    by_test : (b : Bool) → IsPrefix (said_in (cond b (e ∷ []) [])) text
    by_test true = p
    by_test false = (text, refl)

-- nor was more taken
pub taken-by : (t : ℕ) (es : Log) → length (taken (until t es)) ≤ length (taken es)
taken-by t [] = omega arith
taken-by t (e ∷ es) = by_test (taken-by t es) (nat_le e.0 t)
  where
    by_test : (h : length (taken (until t es)) ≤ length (taken es)) (b : Bool) → length (taken (cond b (e ∷ until t es) (until t es)))
        ≤ length (bytes_taken (event_of e.1) ++ taken es)
    by_test h true =
        let l = length-append (bytes_taken (event_of e.1)) (taken (until t es)) in
        let r = length-append (bytes_taken (event_of e.1)) (taken es) in
        omega (arith, h, l, r)
    by_test h false =
        let r = length-append (bytes_taken (event_of e.1)) (taken es) in
        omega (arith, h, r)

-- where nothing was taken at last, nothing was by then
pub taken-until : (t : ℕ) (es : Log) → taken es ≡ [] → taken (until t es) ≡ []
taken-until t es silent = length-none (taken (until t es))
    (let h = taken-by t es in let k = ap length silent in omega (arith, h, k))

-- nor was the end
pub ended-until : (t : ℕ) (es : Log) → ended es ≡ false → ended (until t es) ≡ false
ended-until t [] e = refl
ended-until t (x ∷ es) e = by_test (ended-until t es parts.1) (nat_le x.0 t)
  where
    parts : (is_end (event_of x.1) ≡ false) × (ended es ≡ false)
    parts = or_parts (is_end (event_of x.1)) (ended es) e

    by_test : ended (until t es) ≡ false → (b : Bool)
        → ended (cond b (x ∷ until t es) (until t es)) ≡ false
    by_test h true = ap (λ y. y || ended (until t es)) parts.0 ∙ h
    by_test h false = h

-- a stretch in wider bounds
pub within-wider : (a b c d : ℕ) (es : Log) → AreWithin b c es → a ≤ b → c ≤ d → AreWithin a d es
within-wider a b c d [] w low high = tt
within-wider a b c d (e ∷ es) w low high = (
  omega (arith, w.0, low),
  omega (arith, w.1, high),
  within-wider a b c d es w.2 low high,
)

-- two stretches
pub within-then : (a b c : ℕ) (es fs : Log) → AreWithin a b es → AreWithin b c fs → a ≤ b → b ≤ c
    → AreWithin a c (es ++ fs)
within-then a b c [] fs w v low high = within-wider a b c c fs v low (omega arith)
within-then a b c (e ∷ es) fs w v low high = (
  w.0,
  omega (arith, w.1, high),
  within-then a b c es fs w.2 v low high,
)

-- ---- turns say something

-- each of them says something
abbrev pub AllSay : List Turn → Type 0
AllSay [] = Unit {0}
AllSay (t ∷ ts) = (0 < length t.text) × AllSay ts

-- where nothing was said none was answered
pub answered-none : (ts : List Turn) → AllSay ts → answered_turns ts [] ≡ []
answered-none [] say = refl
answered-none (t ∷ ts) say = grind (arith, say)

-- where no more was said than the first turns say, none of the others was answered
pub answered-front : (ts us : List Turn) (said : List ℕ) → AllSay us
    → length said ≤ length (turns_text ts) → answered_turns (ts ++ us) said ≡ answered_turns ts said
answered-front [] us [] say le = answered-none us say
answered-front [] us (b ∷ bytes) say le = absurd (omega (arith, le))
answered-front (t ∷ ts) us said say le =
    by_test (answered-front ts us rest say fits) (nat_le (length t.text) (length said))
  where
    rest : List ℕ
    rest = drop (length t.text) said

    fits : length rest ≤ length (turns_text ts)
    fits = let d = length-drop (length t.text) said in let l = length-append t.text (turns_text ts) in
        omega (arith, le, d, l)

    by_test : answered_turns (ts ++ us) rest ≡ answered_turns ts rest → (b : Bool)
        → cond b (t ∷ answered_turns (ts ++ us) rest) [] ≡ cond b (t ∷ answered_turns ts rest) []
    by_test h true = ap (λ vs. t ∷ vs) h
    by_test h false = refl

-- where all of the first turns' text was said, they were answered
pub answered-behind : (ts us : List Turn) (said : List ℕ)
    → answered_turns (ts ++ us) (turns_text ts ++ said) ≡ ts ++ answered_turns us said
answered-behind [] us said = refl
answered-behind (t ∷ ts) us said =
    let rest = turns_text ts ++ said in
    let fits : length t.text ≤ length (t.text ++ rest) = let k = length-append t.text rest in
    omega (arith, k) in
    ap (answered_turns (t ∷ (ts ++ us))) (append_assoc t.text (turns_text ts) said)
    ∙ ap (λ b. cond b (t ∷ answered_turns (ts ++ us) (drop (length t.text) (t.text ++ rest))) [])
    (le-leb (length t.text) (length (t.text ++ rest)) fits)
    ∙ ap (λ (bytes : List ℕ). t ∷ answered_turns (ts ++ us) bytes) (drop-append_seam t.text rest)
    ∙ ap (λ vs. t ∷ vs) (answered-behind ts us said)

-- those that were answered are the first
pub answered-prefix : (ts : List Turn) (said : List ℕ) → IsPrefix (answered_turns ts said) ts
answered-prefix [] said = ([], refl)
answered-prefix (t ∷ ts) said = by_test (answered-prefix ts rest) (nat_le (length t.text) (length said))
  where
    rest : List ℕ
    rest = drop (length t.text) said

    by_test : IsPrefix (answered_turns ts rest) ts → (b : Bool)
        → IsPrefix (cond b (t ∷ answered_turns ts rest) []) (t ∷ ts)
    by_test p true = (p.0, ap (λ us. t ∷ us) p.1)
    by_test p false = (t ∷ ts, refl)

-- ---- the states behind turns

-- with all that the server does behind the last it is the state after them
behind-whole : (s : State) (ts : List Turn) → (own : ℕ) × (state_behind own s ts ≡ after s ts)
behind-whole s [] = (0, refl)
behind-whole s (t ∷ []) = (length t.own, ap (last_state (last_state s t.atoms)) (take-length t.own))
behind-whole s (t ∷ (u ∷ ts)) = behind-whole (after_turn s t) (u ∷ ts)

-- behind turns the others go on from the state after them
behind-more : (own : ℕ) (s : State) (ts : List Turn) (u : Turn) (us : List Turn)
    → state_behind own s (ts ++ (u ∷ us)) ≡ state_behind own (after s ts) (u ∷ us)
behind-more own s [] u us = refl
behind-more own s (t ∷ []) u us = refl
behind-more own s (t ∷ (v ∷ ts)) u us = behind-more own (after_turn s t) (v ∷ ts) u us

-- none of them or some
behind-some : (own : ℕ) (s : State) (ts us : List Turn)
    → (n : ℕ) × (state_behind n s (ts ++ us) ≡ state_behind own (after s ts) us)
behind-some own s ts [] =
    let whole = behind-whole s ts in
    (whole.0, ap (state_behind whole.0 s) (append-nil ts) ∙ whole.1)
behind-some own s ts (u ∷ us) = (own, behind-more own s ts u us)

-- ---- files behind a prefix of turns

-- no turn was done
pub stands-none : (image : Image) (s : State) (ts : List Turn) → StandsFor image s
    → StandsBehind image s ts []
stands-none image s ts stands = record {
  done = [];
  prefix = (ts, refl);
  contains = ([], refl);
  own = 0;
  stands = stands;
}

-- all were
pub stands-all : (image : Image) (s : State) (ts : List Turn) → StandsFor image (after s ts)
    → StandsBehind image s ts ts
stands-all image s ts stands =
    let whole = behind-whole s ts in
    record {
      done = ts;
      prefix = IsPrefix-self ts;
      contains = IsPrefix-self ts;
      own = whole.0;
      stands = subst (StandsFor image) (sym whole.1) stands;
    }

-- fewer of them are known to be done
pub stands-fewer : (image : Image) (s : State) (ts fewer least : List Turn) → IsPrefix fewer least
    → StandsBehind image s ts least → StandsBehind image s ts fewer
stands-fewer image s ts fewer least p x = record {
  done = x.done;
  prefix = x.prefix;
  contains = prefix_trans fewer least x.done p x.contains;
  own = x.own;
  stands = x.stands;
}

-- of more turns
pub stands-more : (image : Image) (s : State) (ts us least : List Turn)
    → StandsBehind image s ts least → StandsBehind image s (ts ++ us) least
stands-more image s ts us least x = record {
  done = x.done;
  prefix = IsPrefix-longer x.done ts us x.prefix;
  contains = x.contains;
  own = x.own;
  stands = x.stands;
}

-- behind turns that were done
pub stands-behind : (image : Image) (s : State) (ts us least : List Turn)
    → StandsBehind image (after s ts) us least → StandsBehind image s (ts ++ us) (ts ++ least)
stands-behind image s ts us least x =
    let some = behind-some x.own s ts x.done in
    record {
      done = ts ++ x.done;
      prefix = IsPrefix-behind ts x.done us x.prefix;
      contains = IsPrefix-behind ts least x.done x.contains;
      own = some.0;
      stands = subst (StandsFor image) (sym some.1) x.stands;
    }

-- one turn was done, and of what the server does behind it a first part
pub stands-one : (image : Image) (s : State) (t : Turn) → IsAmong image (last_state s t.atoms) t.own
    → StandsBehind image s (t ∷ []) (t ∷ [])
stands-one image s t among = record {
  done = t ∷ [];
  prefix = ([], refl);
  contains = ([], refl);
  own = among.0;
  stands = among.1;
}

-- it was under way, and it is there whole or not at all
pub stands-uncut : (image : Image) (s : State) (t : Turn) → IsUncut image s t.atoms
    → StandsBehind image s (t ∷ []) []
stands-uncut image s t (inl before) = stands-none image s (t ∷ []) before
stands-uncut image s t (inr done) =
    stands-fewer image s (t ∷ []) [] (t ∷ []) (t ∷ [], refl) (stands-one image s t (0, done))

-- ---- what is left

-- with more turns to come
pub left-more : (s : State) (ts us : List Turn) (said : List ℕ) (image : Image) → AllSay us
    → IsLeft s ts said image → IsLeft s (ts ++ us) said image
left-more s ts us said image say p = record {
  behind = subst (StandsBehind image s (ts ++ us))
      (sym (answered-front ts us said say (prefix-within said (turns_text ts) p.front)))
      (stands-more image s ts us (answered_turns ts said) p.behind);
  front = subst (IsPrefix said) (sym (text_of-append ts us))
      (IsPrefix-longer said (turns_text ts) (turns_text us) p.front);
}

-- behind turns that were done
pub left-behind : (s : State) (ts us : List Turn) (said : List ℕ) (image : Image)
    → IsLeft (after s ts) us said image → IsLeft s (ts ++ us) (turns_text ts ++ said) image
left-behind s ts us said image p = record {
  behind = subst (StandsBehind image s (ts ++ us)) (sym (answered-behind ts us said))
      (stands-behind image s ts us (answered_turns us said) p.behind);
  front = subst (IsPrefix (turns_text ts ++ said)) (sym (text_of-append ts us))
      (IsPrefix-behind (turns_text ts) said (turns_text us) p.front);
}

-- where nothing was said yet nothing needs to have been done
pub left-nothing-of : (s : State) (ts : List Turn) (image : Image) → AllSay ts
    → StandsFor image s → IsLeft s ts [] image
left-nothing-of s ts image say stands = record {
  behind = subst (StandsBehind image s ts) (sym (answered-none ts say)) (stands-none image s ts stands);
  front = (turns_text ts, refl);
}

-- ---- tables and what a stop leaves

-- calls that leave all files leave whether the disk can be relied on
pub trusts-kept : (a b : DiskState) → Keeps a b → IsTrusted a → IsTrusted b
trusts-kept a b keeps trusted = subst (λ (v : Bool). IsTrue v)
    (sym (λ i. keeps.tells i && keeps.honest i)) trusted

-- a call that leaves all files leaves for which state the tables stand
pub stands_kept : (a b : DiskState) → Keeps a b → (tables : Tables) (s : State) → Stands a tables s
    → Stands b tables s
stands_kept a b keeps tables s p = stands_quiet a b tables s keeps.tells keeps.honest
    (record { later = keeps.later; past = keeps.past; file = keeps.file; fates = keeps.fates }) p

-- tables that were ready are ready behind a call that leaves all files
pub ready_kept : (a b : DiskState) (tables : Tables) → Keeps a b → AreReady a tables
    → AreReady b tables
ready_kept a b tables keeps ready trusted =
    let first = ready (subst (λ (v : Bool). IsTrue v)
    (λ i. keeps.tells i && keeps.honest i) trusted) in
    (first.0, stands_kept a b keeps tables first.0 first.1)
