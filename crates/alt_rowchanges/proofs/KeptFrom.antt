-- What a write trims of the changes of a stream, as they are read from the front on.
use Rattle.std.proofs.Common.{◌≡◌, ◌<◌, ◌≤◌, ◌+◌, ◌⊎◌, inl, inr, refl, sym, ap, subst, ◌∙◌, ℕ, zero, suc, Bool, true, false, cond, List, [], ◌∷◌, ◌++◌, length, take, Option, Some, None, IsSome, arith}
use Rattle.std.proofs.lemmas.Bool.{false≢true, lt-leb, leb-false, leb-true, le-leb}
use Rattle.std.proofs.lemmas.Bool.Decides.{nat_tests}
use Rattle.std.proofs.lemmas.List.Elements.{All-head, All-tail}
use Rattle.std.specs.Prelude.{if◌then◌else◌, nat_le, unwrap_or}
use Rattle.alt_machine.specs.Ops.GetRecords.{changes_from}
use Rattle.alt_machine.specs.State.{Change}
use Rattle.alt_machine.specs.Trimming.{is_past, kept, trimmed_at}
use Rattle.alt_machine.proofs.Trimming.{Above, Rise, rise_first, rise_rest}
use Rattle.alt_rowchanges.specs.Fronts.{first_moment}
use Rattle.alt_rowchanges.specs.Trims.{IsKeptFrom, is_over_a_day_before}

-- ---- the change of the write itself

-- it isn't past its own moment
not_past : (moment : ℕ) (c : Change) → c.moment ≡ moment → is_past moment c ≡ false
not_past moment c same = grind (arith, nat_tests, same)

module _ (moment : ℕ) (c : Change) (same : c.moment ≡ moment) where
  -- so it is kept behind the others
  pub kept_more : (cs : List Change) → kept moment (cs ++ c ∷ []) ≡ kept moment cs ++ c ∷ []
  kept_more [] = ap (λ b. if b then [] else c ∷ []) (not_past moment c same)
  kept_more (d ∷ ds) = by (kept_more ds) (is_past moment d)
    where
      by : kept moment (ds ++ c ∷ []) ≡ kept moment ds ++ c ∷ [] → (b : Bool)
          → (if b then kept moment (ds ++ c ∷ []) else d ∷ (ds ++ c ∷ []))
          ≡ (if b then kept moment ds else d ∷ ds) ++ c ∷ []
      by rest true = rest
      by rest false = refl

  -- and none is trimmed because of it
  pub trimmed_more : (before : ℕ) (cs : List Change)
      → trimmed_at moment before (cs ++ c ∷ []) ≡ trimmed_at moment before cs
  trimmed_more before [] =
      ap (λ b. if b then trimmed_at moment c.number [] else before) (not_past moment c same)
  trimmed_more before (d ∷ ds) = by (trimmed_more d.number ds) (is_past moment d)
    where
      by : trimmed_at moment d.number (ds ++ c ∷ []) ≡ trimmed_at moment d.number ds → (b : Bool)
          → (if b then trimmed_at moment d.number (ds ++ c ∷ []) else before)
          ≡ (if b then trimmed_at moment d.number ds else before)
      by rest true = rest
      by rest false = refl

-- the first of them with one more
pub first_more : (cs : List Change) (c : Change)
    → first_moment (cs ++ c ∷ []) ≡ Some (unwrap_or (first_moment cs) c.moment)
first_more [] c = refl
first_more (d ∷ ds) c = refl

-- ---- where the oldest isn't too old

pub young : (moment before : ℕ) (cs : List Change) → is_over_a_day_before (first_moment cs) moment ≡ false
    → (trimmed_at moment before cs ≡ before) × (kept moment cs ≡ cs)
young moment before [] not = (refl, refl)
young moment before (c ∷ cs) not = (
  ap (λ b. if b then trimmed_at moment c.number cs else before) not,
  ap (λ b. if b then kept moment cs else c ∷ cs) not,
)

-- ---- page by page

-- changes above a number are from it on
pub all_from : (n : ℕ) (cs : List Change) → Above n cs → (m : ℕ) → m ≤ n + 1
    → changes_from m cs ≡ cs
all_from n [] over m low = refl
all_from n (c ∷ cs) over m low =
    let high = All-head (λ (x : Change). n < x.number) c cs over in
    ap (λ b. cond b (c ∷ changes_from m cs) (changes_from m cs))
    (le-leb m c.number (omega (arith, high, low)))
    ∙ ap (λ rest. c ∷ rest) (all_from n cs (All-tail (λ (x : Change). n < x.number) c cs over) m low)

-- those behind one of them are those from the number behind it on
pub next_from : (cs : List Change) → Rise cs → (n : ℕ) (c : Change) (rest : List Change)
    → c ∷ rest ≡ changes_from n cs → (n ≤ c.number) × (rest ≡ changes_from (c.number + 1) cs)
next_from [] rise n c rest is = absurd (let none : c ∷ rest ≡ [] = is in let f : ⊥ = cc none in f)
next_from (d ∷ ds) rise n c rest is = by (nat_le n d.number) refl is
    (next_from ds (rise_rest d ds rise) n c rest)
  where
    over : Above d.number ds
    over = rise_first d ds rise

    by : (b : Bool) → nat_le n d.number ≡ b
        → c ∷ rest ≡ cond b (d ∷ changes_from n ds) (changes_from n ds)
        → (c ∷ rest ≡ changes_from n ds
        → (n ≤ c.number) × (rest ≡ changes_from (c.number + 1) ds))
        → (n ≤ c.number) × (rest ≡ cond (nat_le (c.number + 1) d.number)
        (d ∷ changes_from (c.number + 1) ds) (changes_from (c.number + 1) ds))
    by true low is later =
        let first : c ≡ d = cc is in
        let behind : rest ≡ changes_from n ds = cc is in
        let number : c.number ≡ d.number = ap (λ (x : Change). x.number) first in (
          omega (arith, leb-true n d.number low, number),
          behind ∙ all_from d.number ds over n
              (let le = leb-true n d.number low in omega (arith, le))
              ∙ sym (all_from d.number ds over (c.number + 1) (omega (arith, number)))
              ∙ ap (λ b. cond b (d ∷ changes_from (c.number + 1) ds)
              (changes_from (c.number + 1) ds))
              (sym (lt-leb (c.number + 1) d.number (omega (arith, number)))),
        )
    by false late is later =
        let further = later is in
        let least = further.0 in (
          further.0,
          further.1 ∙ ap (λ b. cond b (d ∷ changes_from (c.number + 1) ds)
              (changes_from (c.number + 1) ds))
              (sym (lt-leb (c.number + 1) d.number
              (let less = leb-false n d.number late in omega (arith, less, least)))),
        )

-- What the first of the changes behind a number tell of all of them: where each of them is trimmed one may go on behind the last, and
-- else the first that is kept is the first of all.
pub record KeptPage (moment : ℕ) (cs : List Change) (n : ℕ) (page rest : List Change)
    : Type 0 where
  pub none : first_moment (kept moment page) ≡ None
      → (trimmed_at moment n rest
      ≡ trimmed_at moment (trimmed_at moment n page) (changes_from (trimmed_at moment n page + 1) cs))
      × (kept moment rest ≡ kept moment (changes_from (trimmed_at moment n page + 1) cs))
  pub some : (m : ℕ) → first_moment (kept moment page) ≡ Some m
      → (trimmed_at moment n rest ≡ trimmed_at moment n page)
      × (first_moment (kept moment rest) ≡ Some m)

pub kept_page : (moment : ℕ) (cs : List Change) → Rise cs → (k n : ℕ) (rest : List Change)
    → rest ≡ changes_from (n + 1) cs → KeptPage moment cs n (take k rest) rest
kept_page moment cs rise k n [] is = by k
  where
    by : (k : ℕ) → KeptPage moment cs n (take k []) []
    by zero = record {
      none = λ e. (ap (trimmed_at moment n) is, ap (kept moment) is);
      some = λ m e. absurd (let f : ⊥ = cc e in f);
    }
    by (suc k) = record {
      none = λ e. (ap (trimmed_at moment n) is, ap (kept moment) is);
      some = λ m e. absurd (let f : ⊥ = cc e in f);
    }
kept_page moment cs rise zero n (c ∷ rest) is = record {
  none = λ e. (ap (trimmed_at moment n) is, ap (kept moment) is);
  some = λ m e. absurd (let f : ⊥ = cc e in f);
}
kept_page moment cs rise (suc k) n (c ∷ rest) is = by (is_past moment c) refl
    (kept_page moment cs rise k c.number rest (next_from cs rise (n + 1) c rest is).1)
  where
    by : (b : Bool) → is_past moment c ≡ b → KeptPage moment cs c.number (take k rest) rest
        → KeptPage moment cs n (c ∷ take k rest) (c ∷ rest)
    by true e more =
        let trimmed : (xs : List Change) → trimmed_at moment n (c ∷ xs)
        ≡ trimmed_at moment c.number xs =
        λ xs. ap (λ b. if b then trimmed_at moment c.number xs else n) e in
        let stays : (xs : List Change) → kept moment (c ∷ xs) ≡ kept moment xs =
        λ xs. ap (λ b. if b then kept moment xs else c ∷ xs) e in
        record {
          none = λ e.
              let next = more.none (ap first_moment (sym (stays (take k rest))) ∙ e) in (
                trimmed rest ∙ next.0
                    ∙ ap (λ p. trimmed_at moment p (changes_from (p + 1) cs))
                    (sym (trimmed (take k rest))),
                stays rest ∙ next.1
                    ∙ ap (λ p. kept moment (changes_from (p + 1) cs)) (sym (trimmed (take k rest))),
              );
          some = λ m e.
              let next = more.some m (ap first_moment (sym (stays (take k rest))) ∙ e) in (
                trimmed rest ∙ next.0 ∙ sym (trimmed (take k rest)),
                ap first_moment (stays rest) ∙ next.1,
              );
        }
    by false e more =
        let stays : (xs : List Change) → kept moment (c ∷ xs) ≡ c ∷ xs =
        λ xs. ap (λ b. if b then kept moment xs else c ∷ xs) e in
        let trimmed : (xs : List Change) → trimmed_at moment n (c ∷ xs) ≡ n =
        λ xs. ap (λ b. if b then trimmed_at moment c.number xs else n) e in
        record {
          none = λ e. absurd (let no : Some c.moment ≡ None =
              ap first_moment (sym (stays (take k rest))) ∙ e in let f : ⊥ = cc no in f);
          some = λ m e. (
            trimmed rest ∙ sym (trimmed (take k rest)),
            ap first_moment (stays rest) ∙ ap first_moment (sym (stays (take k rest))) ∙ e,
          );
        }

-- Where none of a page is kept and there are more, the walk goes on behind the last; and else what it tells is so of all.
pub page_done : (moment : ℕ) (cs : List Change) → Rise cs → (most n : ℕ) (rest page : List Change)
    → rest ≡ changes_from (n + 1) cs → page ≡ take (suc most) rest → (r : ℕ × Option ℕ)
    → IsKeptFrom moment n page r → (length page ≡ 0) ⊎ IsSome r.1 → IsKeptFrom moment n rest r
page_done moment cs rise most n rest page is page_is r told done = by r.1 refl done
  where
    of_page : KeptPage moment cs n page rest
    of_page = subst (λ xs. KeptPage moment cs n xs rest) (sym page_is)
        (kept_page moment cs rise (suc most) n rest is)

    by : (o : Option ℕ) → r.1 ≡ o → (length page ≡ 0) ⊎ IsSome o → IsKeptFrom moment n rest r
    by (Some m) e done =
        let next = of_page.some m (sym told.oldest ∙ e) in record {
          number = told.number ∙ sym next.0;
          oldest = e ∙ sym next.1;
        }
    by None e (inr told) = absurd (false≢true told)
    by None e (inl empty) = none rest refl
      where
        none : (xs : List Change) → rest ≡ xs → IsKeptFrom moment n rest r
        none [] f = record {
          number = told.number ∙ ap (trimmed_at moment n) (page_is ∙ ap (take (suc most)) f)
              ∙ sym (ap (trimmed_at moment n) f);
          oldest = e ∙ sym (ap (λ xs. first_moment (kept moment xs)) f);
        }
        none (c ∷ xs) f = absurd (let no : suc (length (take most xs)) ≡ 0 =
            sym (ap length (page_is ∙ ap (take (suc most)) f)) ∙ empty in omega (arith, no))
