-- The one member of a value's object, and the texts, numbers, binaries and sets in it.
use Rattle.std.proofs.Common.{◌≡◌, refl, sym, ap, subst, ◌∙◌, ℕ, ◌<◌, Bool, true, false, cond, List, [], ◌∷◌, length, Option, Some, None, Result, Ok, Err, inl, inr, arith}
use Rattle.std.specs.Prelude.{ℤ, ◌⊎◌}
use Rattle.std.specs.declared.cmp.Ordering.{Ordering}
use Rattle.base64.specs.Engines.{standard}
use Rattle.base64.specs.GeneralPurpose.{decode_of}
use Rattle.base64.specs.declared.decode.DecodeError.{DecodeError}
use Rattle.serde_json.specs.Data.{Data, null, boolean, number, string, array, object, Items, no_items, item, Members, no_members, member}
use Rattle.alt_decimal.specs.NumberText.{TextReadsAs}
use Rattle.alt_decimal.specs.declared.fault.NumberFault.{NumberFault}
use Rattle.alt_value.specs.Members.{set_of}
use Rattle.alt_codec.specs.declared.fault.ValueFault.{ValueFault}
use Rattle.alt_codec.specs.JsonOf.{present, IsOnlyMember, IsTextOf, IsNumberOf, IsBinaryOf, IsMemberOf, AreMembersOf, IsSetOf}
use Rattle.alt_codec.specs.Numbers.{number_of}
use Rattle.alt_codec.specs.Reading.{all_null, only_present, value_in, payload_in}
use Rattle.alt_codec.specs.Scalars.{text_in, number_in, binary_in, or_bad_number, or_bad_base64}
use Rattle.alt_codec.specs.Sets.{members_in, told, sound, first_fault, then_sound, or_later_fault}
use Rattle.alt_codec.specs.Steps.{and_then, map_ok}
use Rattle.alt_codec.proofs.Numbers.{reads, reads-number_of}
use Rattle.alt_codec.proofs.Present.{of_present, only_member-only_present}

-- ---- an answer after another that is Ok

-- what is made of an answer, is made of one
pub ok_map : {A B : Type 0} (f : A → B) (r : Result A ValueFault) (y : B) → map_ok f r ≡ Ok y
    → (x : A) × (r ≡ Ok x) × (f x ≡ y)
ok_map f (Ok x) y e = let g : f x ≡ y = cc in (x, refl, g)
ok_map f (Err g) y e = absurd (let h : ⊥ = cc in h)

-- what depends on an answer, has one before it
pub ok_then : {A B : Type 0} (f : A → Result B ValueFault) (r : Result A ValueFault) (y : B)
    → and_then f r ≡ Ok y
    → (x : A) × (r ≡ Ok x) × (f x ≡ Ok y)
ok_then f (Ok x) y e = (x, refl, e)
ok_then f (Err g) y e = absurd (let h : ⊥ = cc in h)

-- which arm was taken
pub arm : {A : Type 0} (b : Bool) (x y z : A) → cond b x y ≡ z
    → ((b ≡ true) × (x ≡ z)) ⊎ ((b ≡ false) × (y ≡ z))
arm true x y z e = inl (refl, e)
arm false x y z e = inr (refl, e)

-- ---- the one member

all_null-present : (ms : Members) → all_null ms ≡ true → present ms ≡ []
all_null-present no_members e = refl
all_null-present (member name null ms) e = all_null-present ms e
all_null-present (member name (boolean b) ms) e = cc
all_null-present (member name (number n) ms) e = cc
all_null-present (member name (string s) ms) e = cc
all_null-present (member name (array ds) ms) e = cc
all_null-present (member name (object os) ms) e = cc

present-all_null : (ms : Members) → present ms ≡ [] → all_null ms ≡ true
present-all_null no_members e = refl
present-all_null (member name null ms) e = present-all_null ms e
present-all_null (member name (boolean b) ms) e = cc
present-all_null (member name (number n) ms) e = cc
present-all_null (member name (string s) ms) e = cc
present-all_null (member name (array ds) ms) e = cc
present-all_null (member name (object os) ms) e = cc

-- one member alone, by the test and by the list
alone : (x p : List ℕ × Data) (b : Bool) (rest : List (List ℕ × Data)) → (b ≡ true → rest ≡ [])
    → cond b (Some x) None ≡ Some p
    → x ∷ rest ≡ p ∷ []
alone x p true rest h e = let f : x ≡ p = cc in λ k. f k ∷ h refl k
alone x p false rest h e = cc

told_alone : (x p : List ℕ × Data) (b : Bool) (rest : List (List ℕ × Data)) → (rest ≡ [] → b ≡ true)
    → x ∷ rest ≡ p ∷ []
    → cond b (Some x) None ≡ Some p
told_alone x p b [] h e = let f : x ≡ p = cc in rw (h refl) (ap Some f)
told_alone x p b (y ∷ ys) h e = cc

pub present-only : (ms : Members) (p : List ℕ × Data) → only_present ms ≡ Some p → present
    ms ≡ p ∷ []
present-only no_members p e = cc
present-only (member name null ms) p e = present-only ms p e
present-only (member name (boolean b) ms) p e =
    alone (name, boolean b) p (all_null ms) (present ms) (all_null-present ms) e
present-only (member name (number n) ms) p e =
    alone (name, number n) p (all_null ms) (present ms) (all_null-present ms) e
present-only (member name (string s) ms) p e =
    alone (name, string s) p (all_null ms) (present ms) (all_null-present ms) e
present-only (member name (array ds) ms) p e =
    alone (name, array ds) p (all_null ms) (present ms) (all_null-present ms) e
present-only (member name (object os) ms) p e =
    alone (name, object os) p (all_null ms) (present ms) (all_null-present ms) e

only-present : (ms : Members) (p : List ℕ × Data) → present ms ≡ p ∷ [] → only_present ms ≡ Some p
only-present no_members p e = cc
only-present (member name null ms) p e = only-present ms p e
only-present (member name (boolean b) ms) p e =
    told_alone (name, boolean b) p (all_null ms) (present ms) (present-all_null ms) e
only-present (member name (number n) ms) p e =
    told_alone (name, number n) p (all_null ms) (present ms) (present-all_null ms) e
only-present (member name (string s) ms) p e =
    told_alone (name, string s) p (all_null ms) (present ms) (present-all_null ms) e
only-present (member name (array ds) ms) p e =
    told_alone (name, array ds) p (all_null ms) (present ms) (present-all_null ms) e
only-present (member name (object os) ms) p e =
    told_alone (name, object os) p (all_null ms) (present ms) (present-all_null ms) e

pub value_in-only : (room : ℕ) (ms : Members) (name : List ℕ) (payload : Data) → IsOnlyMember ms
    name payload
    → value_in room (object ms) ≡ payload_in room name payload
unfolding of_present
value_in-only room ms name payload o = only_member-only_present room ms
    ∙ ap (of_present room) (only-present ms (name, payload) o)

-- ---- texts, numbers, binaries

-- a text in JSON is a string
pub text_of : (d : Data) (s : List ℕ) → text_in d ≡ Ok s → d ≡ string s
text_of (string t) s e = let f : t ≡ s = cc in ap string f
text_of null s e = cc
text_of (boolean b) s e = cc
text_of (number n) s e = cc
text_of (array ds) s e = cc
text_of (object ms) s e = cc

-- a number without a fault, and bytes without one
pub sound_number : (r : Result ℤ NumberFault) (z : ℤ) → or_bad_number r ≡ Ok z → r ≡ Ok z
sound_number (Ok y) z e = let f : y ≡ z = cc in ap Ok f
sound_number (Err f) z e = cc

pub sound_base64 : (r : Result (List ℕ) DecodeError) (b : List ℕ) → or_bad_base64 r ≡ Ok b
    → r ≡ Ok b
sound_base64 (Ok y) b e = let f : y ≡ b = cc in ap Ok f
sound_base64 (Err f) b e = cc

-- what is read of a text stands for the member
pub member_text : (d : Data) (s : List ℕ) → text_in d ≡ Ok s → IsMemberOf IsTextOf d s
member_text d s e = subst (λ u. IsMemberOf IsTextOf u s) (sym (text_of d s e)) refl

pub member_number : (d : Data) (z : ℤ) → number_in d ≡ Ok z → IsMemberOf IsNumberOf d z
member_number d z e =
    let r = ok_then (λ s. or_bad_number (number_of s)) (text_in d) z e in
    subst (λ u. IsMemberOf IsNumberOf u z) (sym (text_of d r.0 r.1))
    (subst (TextReadsAs r.0) (sound_number (number_of r.0) z r.2) (reads r.0))

pub member_binary : (d : Data) (b : List ℕ) → binary_in d ≡ Ok b → IsMemberOf IsBinaryOf d b
member_binary d b e =
    let r = ok_then (λ s. or_bad_base64 (decode_of standard s)) (text_in d) b e in
    subst (λ u. IsMemberOf IsBinaryOf u b) (sym (text_of d r.0 r.1))
    (sound_base64 (decode_of standard r.0) b r.2)

-- and what stands for a member is read
pub text_member : (d : Data) (s : List ℕ) → IsMemberOf IsTextOf d s → text_in d ≡ Ok s
text_member (string t) s h = ap Ok h
text_member null s h = absurd h
text_member (boolean b) s h = absurd h
text_member (number n) s h = absurd h
text_member (array ds) s h = absurd h
text_member (object ms) s h = absurd h

pub number_member : (d : Data) (z : ℤ) → IsMemberOf IsNumberOf d z → number_in d ≡ Ok z
number_member (string t) z h = ap or_bad_number (reads-number_of t (Ok z) h)
number_member null z h = absurd h
number_member (boolean b) z h = absurd h
number_member (number n) z h = absurd h
number_member (array ds) z h = absurd h
number_member (object ms) z h = absurd h

pub binary_member : (d : Data) (b : List ℕ) → IsMemberOf IsBinaryOf d b → binary_in d ≡ Ok b
binary_member (string t) b h = ap or_bad_base64 h
binary_member null b h = absurd h
binary_member (boolean c) b h = absurd h
binary_member (number n) b h = absurd h
binary_member (array ds) b h = absurd h
binary_member (object ms) b h = absurd h

-- ---- sets

-- a set that is told has no fault
told_ok : {A : Type 0} (o : Option A) (f : Option ValueFault) (s : A) → told o f ≡ Ok s
    → (o ≡ Some s) × (f ≡ None)
told_ok None f s e = absurd (let h : ⊥ = cc in h)
told_ok (Some x) None s e = let g : x ≡ s = cc in (ap Some g, refl)
told_ok (Some x) (Some f) s e = absurd (let h : ⊥ = cc in h)

module _ {K : Type 0} (R : K → K → Ordering) (read : Data → Result K ValueFault)
    (P : List ℕ → K → Type 0)
    (there : (d : Data) (k : K) → read d ≡ Ok k → IsMemberOf P d k)
    (back : (d : Data) (k : K) → IsMemberOf P d k → read d ≡ Ok k) where
  members-there : (ds : Items) → first_fault read ds ≡ None → AreMembersOf P ds (sound read ds)
  members-there no_items e = tt
  members-there (item d ds) e =
      elim (read d) as (λ r. read d ≡ r → or_later_fault r (first_fault read ds) ≡ None
      → AreMembersOf P (item d ds) (then_sound r (sound read ds))) [
        | Ok k ↦ λ q f. (there d k q, members-there ds f)
        | Err g ↦ λ q f. absurd (let h : ⊥ = cc in h)
      ] refl e

  some_members : (d : Data) (ds : Items) (ks : List K) → AreMembersOf P (item d ds) ks
      → 0 < length ks
  some_members d ds [] h = absurd h
  some_members d ds (k ∷ ks) h = omega arith

  pub set-there : (d : Data) (ks : List K) → members_in R read d ≡ Ok ks
      → (ds : Items) × (d ≡ array ds) × IsSetOf R P ds ks
  set-there (array no_items) ks e = absurd (let h : ⊥ = cc in h)
  set-there (array (item d ds)) ks e =
      let told = told_ok (set_of R (sound read (item d ds))) (first_fault read (item d ds)) ks e in
      let are : AreMembersOf P (item d ds) (sound read (item d ds)) =
      members-there (item d ds) told.1 in (
        item d ds,
        refl,
        (
          sound read (item d ds),
          are,
          some_members d ds (sound read (item d ds)) are,
          told.0,
        ),
      )
  set-there null ks e = absurd (let h : ⊥ = cc in h)
  set-there (boolean b) ks e = absurd (let h : ⊥ = cc in h)
  set-there (number n) ks e = absurd (let h : ⊥ = cc in h)
  set-there (string s) ks e = absurd (let h : ⊥ = cc in h)
  set-there (object ms) ks e = absurd (let h : ⊥ = cc in h)

  members-back : (ds : Items) (ks : List K) → AreMembersOf P ds ks
      → (sound read ds ≡ ks) × (first_fault read ds ≡ None)
  members-back no_items [] h = (refl, refl)
  members-back no_items (k ∷ ks) h = absurd h
  members-back (item d ds) [] h = absurd h
  members-back (item d ds) (k ∷ ks) h =
      let rest = members-back ds ks h.1 in (
        ap (λ r. then_sound r (sound read ds)) (back d k h.0) ∙ ap (λ l. k ∷ l) rest.0,
        ap (λ r. or_later_fault r (first_fault read ds)) (back d k h.0) ∙ rest.1,
      )

  pub set-back : (ds : Items) (set : List K) → IsSetOf R P ds set
      → members_in R read (array ds) ≡ Ok set
  set-back no_items set h = elim h.0 as (λ ks. AreMembersOf P no_items ks → 0 < length ks
      → members_in R read (array no_items) ≡ Ok set) [
        | [] ↦ λ are some. absurd (omega arith)
        | k ∷ ks ↦ λ are some. absurd are
      ] h.1 h.2
  set-back (item d ds) set h =
      let is = members-back (item d ds) h.0 h.1 in
      ap (λ f. told (set_of R (sound read (item d ds))) f) is.1
      ∙ ap (λ l. told (set_of R l) None) is.0 ∙ ap (λ o. told o None) h.3
