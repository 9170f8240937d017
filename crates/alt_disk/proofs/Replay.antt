-- How the list of calls goes on by one, and what shows of it at each moment.
use Rattle.std.proofs.Common.{slice_index_or, ◌≡◌, ◌≢◌, ◌<◌, ◌≤◌, ◌==◌, nat_le, if◌then◌else◌, ⊎_elim, ℕ, zero, suc, List, [], ◌∷◌, ◌++◌, Option, refl, sym, ◌∙◌, ap, arith}
use Rattle.std.proofs.lemmas.Bool.Decides.{nat_tests}
use Rattle.std.proofs.lemmas.Bool.{cases_eq}
use Rattle.std.proofs.lemmas.List.{append-nil}
use Rattle.std.proofs.lemmas.List.Elements.{All-append, filter-append}
use Rattle.std.specs.List.{All}
use Rattle.alt_disk.specs.Memory.{Track, nothing, bytes_after, track_after, after_call, replay, calls_until, Timed, LeavesReads}
use Rattle.alt_disk.specs.declared.made.Made.{Made}

-- one call more is done last
pub replay-push : (f : ℕ) (s : Track) (calls : List Made) (made : Made)
    → replay f s (calls ++ made ∷ []) ≡ after_call f made (replay f s calls)
replay-push f s [] made = refl
replay-push f s (m ∷ calls) made = replay-push f (after_call f m s) calls made

-- a call acts on its own file
pub call-own : (made : Made) (s : Track) → after_call made.file made s ≡ track_after made.deed s
call-own made s = grind (arith, nat_tests)

-- and on no other
pub call-other : (f : ℕ) (made : Made) (s : Track) → f ≢ made.file → after_call f made s ≡ s
call-other f made s other = grind (arith, nat_tests)

-- a choice by equal numbers
pub test_same : {A : Type 0} (f g : ℕ) (x y : A) → f ≡ g → (if f == g then x else y) ≡ x
test_same f g x y same = grind (arith, nat_tests)

-- and by numbers that differ
pub test_other : {A : Type 0} (f g : ℕ) (x y : A) → f ≢ g → (if f == g then x else y) ≡ y
test_other f g x y other = grind (arith, nat_tests)

-- files that are changed as the call says are still those of the list
pub kept-push : (calls : List Made) (made : Made) (old new : ℕ → Option (List ℕ))
    → ((f : ℕ) → old f ≡ (replay f nothing calls).bytes)
    → ((g : ℕ) → new g ≡ (if made.file == g then bytes_after made.deed (old made.file) else old g))
    → (f : ℕ) → new f ≡ (replay f nothing (calls ++ made ∷ [])).bytes
kept-push calls made old new kept changed f = ⊎_elim
    (λ (same : made.file ≡ f). changed f ∙ test_same made.file f _ _ same
    ∙ ap (λ (b : Option (List ℕ)). bytes_after made.deed b) (kept made.file)
    ∙ ap (λ (s : Track). s.bytes) (sym (replay-push made.file nothing calls made ∙ call-own made _))
    ∙ ap (λ (g : ℕ). (replay g nothing (calls ++ made ∷ [])).bytes) same)
    (λ (other : made.file ≢ f). changed f ∙ test_other made.file f _ _ other ∙ kept f
    ∙ ap (λ (s : Track). s.bytes) (sym (replay-push f nothing calls made
    ∙ call-other f made _ (λ same. other (sym same)))))
    (cases_eq made.file f)

-- a call of later doesn't show yet
later_hides : (t : ℕ) (made : Made) → t < made.time → calls_until t (made ∷ []) ≡ []
later_hides t made late = grind (arith, nat_tests)

-- what shows by a moment stays when a call of later is added
pub until-push : (t : ℕ) (calls : List Made) (made : Made) → t < made.time
    → calls_until t (calls ++ made ∷ []) ≡ calls_until t calls
until-push t calls made late =
    filter-append (λ (m : Made). nat_le m.time t) calls (made ∷ [])
    ∙ ap (λ (l : List Made). calls_until t calls ++ l) (later_hides t made late)
    ∙ append-nil (calls_until t calls)

-- calls that show by a moment show by each later one
pub timed_later : (t u : ℕ) (calls : List Made) → All (Timed t) calls → t ≤ u → All (Timed u) calls
timed_later t u calls timed le = λ k d below. let here : Timed t (slice_index_or calls k d) =
    timed k d below in omega (arith, here, le)

-- what holds of a call holds of each in a list of it alone
one_all : (P : Made → Type 0) (k : ℕ) (made d : Made) → P made → k < 1
    → P (slice_index_or (made ∷ []) k d)
one_all P zero made d holds below = holds
one_all P (suc k) made d holds below = absurd (omega (arith, below))

-- what holds of each call and of one more
pub all_push : (P : Made → Type 0) (calls : List Made) (made : Made) → All P calls → P made
    → All P (calls ++ made ∷ [])
all_push P calls made all holds =
    All-append P calls (made ∷ []) all (λ k d below. one_all P k made d holds below)

-- one call more that shows by the moment
pub timed_push : (t : ℕ) (calls : List Made) (made : Made) → All (Timed t) calls → made.time ≤ t
    → All (Timed t) (calls ++ made ∷ [])
timed_push t calls made timed le = all_push (Timed t) calls made timed le

-- files that a call leaves as they read are still those of the list
pub kept-leaves : (calls : List Made) (made : Made) (file : ℕ → Option (List ℕ))
    → ((f : ℕ) → file f ≡ (replay f nothing calls).bytes) → LeavesReads made.deed
    → (f : ℕ) → file f ≡ (replay f nothing (calls ++ made ∷ [])).bytes
kept-leaves calls made file kept leaves = kept-push calls made file file kept stays
  where
    stays : (g : ℕ) → file g ≡ (if made.file == g then bytes_after made.deed
        (file made.file) else file g)
    stays g = ⊎_elim
        (λ (same : made.file ≡ g). ap file (sym same) ∙ sym (leaves (file made.file))
        ∙ sym (test_same made.file g _ _ same))
        (λ (other : made.file ≢ g). sym (test_other made.file g _ _ other))
        (cases_eq made.file g)
