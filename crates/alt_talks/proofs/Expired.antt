-- Expired items that are deleted by the server itself, 25 at a time.
use Rattle.std.proofs.Common.{◌≡◌, ◌≤◌, ◌<◌, ◌+◌, ◌-◌, ⊎_elim, inl, inr, refl, sym, ap, subst, ◌∙◌, ℕ, zero, suc, List, [], ◌∷◌, ◌++◌, length, true, false, Bool, nat_lt, Option, None, Some, append_assoc, append-nil, length-append, arith}
use Rattle.std.specs.Prelude.{if◌then◌else◌}
use Rattle.alt_disk.specs.Disk.{DiskState, Goes}
use Rattle.alt_disk.proofs.Calls.{goes_on}
use Rattle.alt_disk.proofs.Runs.{trusted_on}
use Rattle.alt_machine.specs.declared.TheConstants.{MOST_EXPIRED}
use Rattle.alt_machine.specs.Expiry.{expiring}
use Rattle.alt_machine.specs.Ops.ExpireItems.{expire_items}
use Rattle.alt_machine.specs.Outcomes.{last_state, state_after}
use Rattle.alt_machine.specs.State.{State}
use Rattle.alt_machine.specs.Wanted.{Lack, wanted}
use Rattle.alt_machine.proofs.Behind.{last_behind}
use Rattle.alt_tables.specs.Images.{Leaves, StandsFor}
use Rattle.alt_tables.specs.Faults.{AreMade, BreakOff, told_by_tables}
use Rattle.alt_tables.specs.Stands.{Stands}
use Rattle.alt_tables.specs.DeclaredTableFault.{TableFault}
use Rattle.alt_tables.specs.declared.tables.Tables.{Tables}
use Rattle.alt_talks.specs.Faults.{IsCausedBy, IsFileFault, told_by_run}
use Rattle.alt_talks.specs.Own.{BetweenNot, Own, expiries, none_own}
use Rattle.alt_talks.specs.Stops.{Image, IsAmong}
use Rattle.alt_talks.specs.Turns.{or_next}
use Rattle.alt_talks.specs.Works.{Follows}
use Rattle.alt_talks.specs.declared.fault.RunFault.{RunFault}
use Rattle.alt_talks.proofs.Answering.{among_leaves, caused}
use Rattle.alt_talks.proofs.Owning.{cause_first, follows_none}
use Rattle.alt_talks.proofs.StretchLeaving.{leaves-weaker, spans_two}

-- ---- some writes and then others

-- the first of some writes are the first of them and others
first_of_both : (s : State) (xs ys : List State) (k : ℕ)
    → (n : ℕ) × (state_after n s (xs ++ ys) ≡ state_after k s xs)
first_of_both s xs ys zero = (zero, refl)
first_of_both s [] ys (suc k) = (zero, refl)
first_of_both s (x ∷ xs) ys (suc k) =
    let rest = first_of_both x xs ys k in (suc rest.0, rest.1)

-- and those of the others behind all of them
then_of_both : (s : State) (xs ys : List State) (k : ℕ)
    → (n : ℕ) × (state_after n s (xs ++ ys) ≡ state_after k (last_state s xs) ys)
then_of_both s [] ys k = (k, refl)
then_of_both s (x ∷ xs) ys k =
    let rest = then_of_both x xs ys k in (suc rest.0, rest.1)

-- what a stop leaves of both
among_first : (s : State) (xs ys : List State) (image : Image) → IsAmong image s xs
    → IsAmong image s (xs ++ ys)
among_first s xs ys image h =
    let n = first_of_both s xs ys h.0 in (n.0, subst (StandsFor image) (sym n.1) h.1)

among_then : (s : State) (xs ys : List State) (image : Image) → IsAmong image (last_state s xs) ys
    → IsAmong image s (xs ++ ys)
among_then s xs ys image h =
    let n = then_of_both s xs ys h.0 in (n.0, subst (StandsFor image) (sym n.1) h.1)

-- requests of the server's own, and then others
pub follows_then : (a b c : DiskState) (s : State) (xs ys : List State) → Follows a b s xs
    → Follows b c (last_state s xs) ys → Follows a c s (xs ++ ys)
follows_then a b c s xs ys first rest = record {
  goes = goes_on a b c first.goes rest.goes;
  leaves = λ trusted. spans_two a b c (λ _ image. IsAmong image s xs)
      (λ _ image. IsAmong image (last_state s xs) ys) (λ _ image. IsAmong image s (xs ++ ys))
      (first.leaves trusted) (rest.leaves (trusted_on a b first.goes trusted))
      (λ t image before h. among_first s xs ys image h)
      (λ t image from h. among_then s xs ys image h);
}

-- what a request leaves
pub follows_one : (b c : DiskState) (t : Tables) (s : State) (atoms : List State) → Stands b t s
    → Goes b c → Leaves b c s atoms → Follows b c s atoms
follows_one b c t s atoms stands goes leaves =
    record { goes = goes; leaves = among_leaves b c t s atoms stands leaves }

-- ---- one ExpireItems more

-- So many of them were made, and so many more may be.
pub record AreExpired (a b : DiskState) (t : Tables) (moment most left : ℕ) (s : State) : Type 0 where
  pub to : State
  pub stands : Stands b t to
  pub done : List State
  pub last : last_state s done ≡ to
  pub atoms : (expiries most moment s).atoms ≡ done ++ (expiries left moment to).atoms
  pub lacks : (expiries most moment s).lacks ≡ (expiries left moment to).lacks
  pub follows : Follows a b s done

-- none was
pub expired_none : (a : DiskState) (t : Tables) (moment most : ℕ) (s : State) → Stands a t s
    → AreExpired a a t moment most most s
expired_none a t moment most s stands = record {
  to = s;
  stands = stands;
  done = [];
  last = refl;
  atoms = refl;
  lacks = refl;
  follows = follows_none a t s stands;
}

-- no lack, and then another
no_lack : (x y : Option Lack) → x ≡ None → or_next x y ≡ y
no_lack None y e = refl
no_lack (Some l) y e = absurd (let f : ⊥ = cc in f)

-- what is left behind one that deleted so many
abbrev rest_of : ℕ → ℕ → State → Own
rest_of left moment to = if nat_lt (length (expiring to moment)) MOST_EXPIRED then none_own
    else expiries left moment (last_state to (expire_items to moment).atoms)

module _ (a b c : DiskState) (t u : Tables) (moment most left : ℕ) (s : State)
    (so : AreExpired a b t moment most (suc left) s) where
  abbrev atoms : List State
  atoms = (expire_items so.to moment).atoms

  module _ (goes : Follows b c so.to atoms)
      (made : AreMade (Stands c u) (expire_items so.to moment).wants so.to atoms) where
    -- as many were deleted as may be: the next one follows
    pub expired_more : nat_lt (length (expiring so.to moment)) MOST_EXPIRED ≡ false
        → AreExpired a c u moment most left s
    expired_more full = record {
      to = last_state so.to atoms;
      stands = made.state;
      done = so.done ++ atoms;
      last = last_behind s so.done atoms ∙ ap (λ r. last_state r atoms) so.last;
      atoms = so.atoms
          ∙ ap (λ (o : Own). so.done ++ (atoms ++ o.atoms)) rest_is
          ∙ sym (append_assoc so.done atoms
          (expiries left moment (last_state so.to atoms)).atoms);
      lacks = so.lacks ∙ ap (λ (o : Own). or_next (wanted so.to (expire_items so.to moment)) o.lacks) rest_is
          ∙ no_lack _ _ made.enough;
      follows = follows_then a b c s so.done atoms so.follows
          (subst (λ r. Follows b c r atoms) (sym so.last) goes);
    }
      where
        rest_is : rest_of left moment so.to ≡ expiries left moment (last_state so.to atoms)
        rest_is = ap (λ (x : Bool). if x then none_own
            else expiries left moment (last_state so.to atoms)) full

    -- fewer were: that was the last
    pub expired_last : nat_lt (length (expiring so.to moment)) MOST_EXPIRED ≡ true
        → AreExpired a c u moment most zero s
    expired_last few = record {
      to = last_state so.to atoms;
      stands = made.state;
      done = so.done ++ atoms;
      last = last_behind s so.done atoms ∙ ap (λ r. last_state r atoms) so.last;
      atoms = so.atoms
          ∙ ap (λ (o : Own). so.done ++ (atoms ++ o.atoms)) rest_is
          ∙ sym (append_assoc so.done atoms []);
      lacks = so.lacks ∙ ap (λ (o : Own). or_next (wanted so.to (expire_items so.to moment)) o.lacks) rest_is
          ∙ no_lack _ _ made.enough;
      follows = follows_then a b c s so.done atoms so.follows
          (subst (λ r. Follows b c r atoms) (sym so.last) goes);
    }
      where
        rest_is : rest_of left moment so.to ≡ none_own
        rest_is = ap (λ (x : Bool). if x then none_own
            else expiries left moment (last_state so.to atoms)) few

  -- it broke off
  pub expired_broke : (file : ℕ) (given : TableFault) (fault : RunFault)
      → told_by_run fault ≡ told_by_tables given
      → BreakOff file (Stands c u) (expire_items so.to moment).wants so.to atoms given
      → BetweenNot file (expiries most moment s) fault
  expired_broke file given fault same broke = ⊎_elim
      (λ (h : IsCausedBy (wanted so.to (expire_items so.to moment)) fault).
      inl (subst (λ (l : Option Lack). IsCausedBy l fault) (sym so.lacks)
      (cause_first (wanted so.to (expire_items so.to moment)) (rest_of left moment so.to).lacks
      fault h)))
      (λ (h : (wanted so.to (expire_items so.to moment) ≡ None) × (1 ≤ length atoms)
      × IsFileFault file fault). inr (some h.1, h.2))
      (caused file (Stands c u) so.to (expire_items so.to moment) given fault same broke)
    where
      some : 1 ≤ length atoms → 1 ≤ length (expiries most moment s).atoms
      some few = subst (λ (xs : List State). 1 ≤ length xs) (sym so.atoms)
          (let both = length-append so.done (atoms ++ (rest_of left moment so.to).atoms) in
          let behind = length-append atoms (rest_of left moment so.to).atoms in
          omega (arith, few, both, behind))

  -- and a stop left some of what is made
  pub expired_follows : Follows b c so.to atoms → Follows a c s (expiries most moment s).atoms
  expired_follows goes = subst (Follows a c s) (sym so.atoms)
      (subst (Follows a c s) (append_assoc so.done atoms (rest_of left moment so.to).atoms)
      (follows_some a c s (so.done ++ atoms) (rest_of left moment so.to).atoms
      (follows_then a b c s so.done atoms so.follows
      (subst (λ r. Follows b c r atoms) (sym so.last) goes))))
    where
      follows_some : (a c : DiskState) (s : State) (xs ys : List State) → Follows a c s xs
          → Follows a c s (xs ++ ys)
      follows_some a c s xs ys h = record {
        goes = h.goes;
        leaves = leaves-weaker a c (λ _ image. IsAmong image s xs) (λ _ image. IsAmong image s (xs ++ ys))
            (λ t image x. among_first s xs ys image x) h.leaves;
      }

-- all of them were made
pub expired_stands : (a b : DiskState) (t : Tables) (moment most : ℕ) (s : State)
    → AreExpired a b t moment most zero s
    → Stands b t (last_state s (expiries most moment s).atoms)
expired_stands a b t moment most s so = subst (Stands b t)
    (sym (ap (last_state s) (so.atoms ∙ append-nil so.done) ∙ so.last)) so.stands

pub expired_all : (a b : DiskState) (t : Tables) (moment most : ℕ) (s : State)
    → AreExpired a b t moment most zero s → Follows a b s (expiries most moment s).atoms
expired_all a b t moment most s so =
    subst (Follows a b s) (sym (so.atoms ∙ append-nil so.done)) so.follows

-- and nothing was lacked
pub expired_enough : (a b : DiskState) (t : Tables) (moment most : ℕ) (s : State)
    → AreExpired a b t moment most zero s → (expiries most moment s).lacks ≡ None
expired_enough a b t moment most s so = so.lacks

-- as many are left as were, in another word
pub expired_as : (a b : DiskState) (t : Tables) (moment most m n : ℕ) (s : State) → m ≡ n
    → AreExpired a b t moment most m s → AreExpired a b t moment most n s
expired_as a b t moment most m n s same so =
    subst (λ (k : ℕ). AreExpired a b t moment most k s) same so

-- one of them is made next
pub left_next : (most i : ℕ) → i < most → most - i ≡ suc (most - (i + 1))
left_next most i low = omega (arith, low)
