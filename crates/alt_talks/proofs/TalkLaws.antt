-- The rules of the server are lawful, and refusals have numbers from 1 to 9.
use Rattle.std.proofs.Common.{◌≡◌, ◌≤◌, ◌<◌, ℕ, List, [], ◌∷◌, ◌++◌, length, Bool, true, false, Option, Some, None, cond, refl, sym, ap, subst, ◌∙◌, arith, length-append}
use Rattle.std.specs.Prelude.{not, nat_lt, codes}
use Rattle.std.specs.Str.{bytes_eq}
use Rattle.std.specs.Str.Parse.{digits_value}
use Rattle.std.specs.List.{list_any}
use Rattle.alt_http.specs.Reading.{scan_of}
use Rattle.alt_http.specs.Dates.{date_at}
use Rattle.alt_http.specs.Replies.{continue_text, head_text, reply_text, refusal_status, refusal_body}
use Rattle.alt_http.specs.Fields.{is_word, values_named}
use Rattle.alt_http.specs.Lengths.{is_other_length}
use Rattle.alt_http.specs.Judged.{IsScan, Parts, head_refusal, answer_to_head, length_refusal, has_value, most_of_body, by_head, by_bad, by_size, by_more, parts_of}
use Rattle.alt_http.specs.declared.outcome.Scan.{Scan}
use Rattle.alt_http.specs.declared.outcome.Scan.TheVariants.{More, Refused, Head}
use Rattle.alt_http.proofs.Answering.{scan_of-nothing, scan_of-refused, scan_of-head, scan_of-within}
use Rattle.alt_machine.specs.Outcomes.{last_state}
use Rattle.alt_machine.specs.State.{State}
use Rattle.alt_machine.specs.Wanted.{wanted}
use Rattle.alt_talks.specs.Own.{after_behind, own_behind, own_between}
use Rattle.alt_talks.specs.TalkRules.{talk_rules, outcome_of, left_by, http_text}
use Rattle.alt_talks.specs.TalkViews.{scanned}
use Rattle.alt_talks.specs.Turns.{or_next}
use Rattle.alt_talks.specs.Talks.{unread, bad, good, Request, Head as TalkHead}
use Rattle.alt_talks.specs.private.Lawful.{Lawful}

-- ---- the rules

pub rules-scan : (bytes : List ℕ) → talk_rules.scan bytes ≡ scanned (scan_of bytes)
unfolding talk_rules
rules-scan bytes = refl

pub rules-greeting : talk_rules.greeting ≡ continue_text
unfolding talk_rules
rules-greeting = refl

pub rules-refusal : (k m : ℕ)
    → talk_rules.refusal k m ≡ reply_text (refusal_status k) m true (refusal_body k)
unfolding talk_rules
rules-refusal k m = refl

pub rules-reply : (s : State) (q : Request) (m : ℕ)
    → talk_rules.reply s q m ≡ http_text (outcome_of s q m).answer m q.close
unfolding talk_rules
rules-reply s q m = refl

pub rules-next : (s : State) (q : Request) (m : ℕ)
    → talk_rules.next s q m ≡ after_behind (left_by s q m)
unfolding talk_rules
rules-next s q m = refl

pub rules-atoms : (s : State) (q : Request) (m : ℕ)
    → talk_rules.atoms s q m ≡ (outcome_of s q m).atoms
unfolding talk_rules
rules-atoms s q m = refl

pub rules-alone : (s : State) (q : Request) (m : ℕ)
    → talk_rules.alone s q m ≡ wanted s (outcome_of s q m)
unfolding talk_rules
rules-alone s q m = refl

pub rules-wants : (s : State) (q : Request) (m : ℕ)
    → talk_rules.wants s q m ≡ or_next (wanted s (outcome_of s q m)) (own_behind (left_by s q m)).lacks
unfolding talk_rules
rules-wants s q m = refl

pub rules-own : (s : State) (q : Request) (m : ℕ)
    → talk_rules.own s q m ≡ (own_behind (left_by s q m)).atoms
unfolding talk_rules
rules-own s q m = refl

pub rules-between : (number : ℕ) (moment : Option ℕ) (s : State)
    → talk_rules.between number moment s ≡ own_between number moment s
unfolding talk_rules
rules-between number moment s = refl

-- the state that a request's own writes leave
pub rules-left : (s : State) (q : Request) (m : ℕ)
    → last_state s (talk_rules.atoms s q m) ≡ left_by s q m
rules-left s q m = ap (last_state s) (rules-atoms s q m)

-- ---- lawful

unread-is : (x : Scan) → x ≡ More → scanned x ≡ unread
unread-is x e = ap scanned e

bad-is : (x : Scan) (k : ℕ) → scanned x ≡ bad k → x ≡ Refused k
bad-is More k e = absurd (let f : ⊥ = cc in f)
bad-is (Refused n) k e = let same : n ≡ k = cc in ap Refused same
bad-is (Head taken target length expect close) k e = absurd (let f : ⊥ = cc in f)

good-is : (x : Scan) (h : TalkHead) → scanned x ≡ good h
    → x ≡ Head h.taken h.target h.length h.expect h.close
good-is More h e = absurd (let f : ⊥ = cc in f)
good-is (Refused n) h e = absurd (let f : ⊥ = cc in f)
good-is (Head taken target length expect close) h e =
    let same : record { taken = taken; target = target; length = length; expect = expect; close = close } ≡ h = cc in
    ap (λ (g : TalkHead). Head g.taken g.target g.length g.expect g.close) same

-- a head has a byte or more, so each reply has
head_says : (status : ℕ) (date : List ℕ) (close : Bool) (n : ℕ)
    → 0 < length (head_text status date close n)
unfolding head_text
head_says status date close n = omega arith

reply_says : (status m : ℕ) (close : Bool) (body : List ℕ)
    → 0 < length (reply_text status m close body)
reply_says status m close body =
    let h = head_says status (date_at m) close (length body) in
    let l = length-append (head_text status (date_at m) close (length body)) body in
    omega (arith, h, l)

pub lawful : Lawful talk_rules
lawful = record {
  nothing = rules-scan [] ∙ ap scanned scan_of-nothing;
  stays_bad = λ a b k e.
      let is = bad-is (scan_of a) k (sym (rules-scan a) ∙ e) in
      rules-scan (a ++ b) ∙ ap scanned (scan_of-refused a b k is);
  stays_good = λ a b h e.
      let is = good-is (scan_of a) h (sym (rules-scan a) ∙ e) in
      rules-scan (a ++ b) ∙ ap scanned (scan_of-head a b h.taken h.target h.length h.expect h.close is);
  within = λ a h e.
      let is = good-is (scan_of a) h (sym (rules-scan a) ∙ e) in
      scan_of-within a h.taken h.target h.length h.expect h.close is;
  steps = λ s q m. rules-next s q m
      ∙ ap (λ (xs : List State). last_state (left_by s q m) xs) (sym (rules-own s q m))
      ∙ ap (λ (u : State). last_state u (talk_rules.own s q m)) (sym (rules-left s q m));
  replies = λ s q m. subst (λ (bs : List ℕ). 0 < length bs) (sym (rules-reply s q m))
      (reply_says _ m q.close _);
  refuses = λ k m. subst (λ (bs : List ℕ). 0 < length bs) (sym (rules-refusal k m))
      (reply_says (refusal_status k) m true (refusal_body k));
  greets = subst (λ (bs : List ℕ). 0 < length bs) (sym rules-greeting) (omega arith);
}

-- ---- the numbers of refusals

abbrev Known : Scan → Type 0
Known More = Unit {0}
Known (Refused n) = (1 ≤ n) × (n ≤ 9)
Known (Head taken target length expect close) = Unit {0}

known : (p : Parts) (n : ℕ) → 1 ≤ n → n ≤ 9 → Known (answer_to_head p (Some n))
known p n low high = (low, high)

by_test : (p : Parts) (b : Bool) (x y : Option ℕ) → Known (answer_to_head p x) → Known (answer_to_head p y)
    → Known (answer_to_head p (cond b x y))
by_test p true x y h k = h
by_test p false x y h k = k

by_lengths : (p : Parts) (vs : List (List ℕ)) → Known (answer_to_head p (length_refusal vs))
by_lengths p [] = known p 7 (omega arith) (omega arith)
by_lengths p (v ∷ vs) = by_test p (list_any (is_other_length v) (v ∷ vs)) (Some 8)
    (cond (nat_lt most_of_body (digits_value 10 v)) (Some 9) None)
    (known p 8 (omega arith) (omega arith))
    (by_test p (nat_lt most_of_body (digits_value 10 v)) (Some 9) None
    (known p 9 (omega arith) (omega arith)) tt)

by_parts : (p : Parts) → Known (answer_to_head p (head_refusal p))
by_parts p =
    by_test p (has_value (codes "transfer-encoding") (λ v. true) p) (Some 3) _
    (known p 3 (omega arith) (omega arith))
    (by_test p (not (bytes_eq p.method (codes "POST"))) (Some 4) _
    (known p 4 (omega arith) (omega arith))
    (by_test p (not (bytes_eq p.target (codes "/"))) (Some 5) _
    (known p 5 (omega arith) (omega arith))
    (by_test p (has_value (codes "content-encoding") (λ v. not (is_word (codes "identity") v)) p)
    (Some 6) _ (known p 6 (omega arith) (omega arith))
    (by_lengths p (values_named (codes "content-length") p.fields)))))

known_scan : (bytes : List ℕ) (x : Scan) → IsScan bytes x → Known x
known_scan bytes x (by_head h head e) = subst Known (sym e) (by_parts (parts_of h))
known_scan bytes x (by_bad b e) = subst Known (sym e) (omega arith, omega arith)
known_scan bytes x (by_size on n e) = subst Known (sym e) (omega arith, omega arith)
known_scan bytes x (by_more on n e) = subst Known (sym e) tt

-- a refusal that was answered has a number from 1 to 9
pub known_refusal : (bytes : List ℕ) (x : Scan) (n : ℕ) → IsScan bytes x → x ≡ Refused n
    → (1 ≤ n) × (n ≤ 9)
known_refusal bytes x n is e = subst Known e (known_scan bytes x is)
