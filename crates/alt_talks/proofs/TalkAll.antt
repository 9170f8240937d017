-- Connections, one after another.
use Rattle.alt_talks.specs.declared.fault.RunFault.{RunFault}
use Rattle.alt_talks.specs.declared.fault.RunFault.TheVariants.{NoMemory}
use Rattle.std.proofs.Common.{◌≡◌, ◌<◌, ◌+◌, inl, inr, ℕ, suc, List, [], ◌∷◌, ◌++◌, length, true, false, Option, None, refl, sym, ap, subst, ◌∙◌, append-nil, length-append, arith}
use Rattle.std.proofs.lemmas.Grind.{flat_map-append}
use Rattle.alt_machine.specs.State.{State}
use Rattle.alt_shell.specs.Log.{Log, entry, accepted}
use Rattle.alt_talks.specs.Connections.{ConnectionBreaksOff, Connection, Serves, ServesAll, Served, ServedSome, connection_entries, told_of, after_all, after_own}
use Rattle.alt_talks.specs.private.Rungs.{ConnectionComes, ComesSome}
use Rattle.alt_talks.specs.Faults.{reach}
use Rattle.alt_talks.specs.Own.{BetweenNot, last_told}
use Rattle.alt_talks.specs.Talks.{Rules}
use Rattle.alt_talks.proofs.Timing.{last_told-append}

-- so many connections were served, and nothing else was done
pub record Sofar (r : Rules) (per n : ℕ) (s t : State) (entries : Log) (told : List ℕ) : Type 0 where
  pub all : List Connection
  pub count : length all ≡ n
  pub made : entries ≡ connection_entries all
  pub moments : told ≡ told_of all
  pub each : ServesAll r per 1 None s all t

pub entries-append : (ks ls : List Connection) → connection_entries (ks ++ ls) ≡ connection_entries ks ++ connection_entries ls
entries-append ks ls = flat_map-append
    (λ (k : Connection). entry k.moment k.clocked accepted ∷ k.entries) ks ls

pub told-append : (ks ls : List Connection) → told_of (ks ++ ls) ≡ told_of ks ++ told_of ls
told-append ks ls = flat_map-append (λ (k : Connection). k.told) ks ls

-- ---- the number of the connection behind these, and the last moment told by then

abbrev pub number_behind : ℕ → List Connection → ℕ
number_behind n [] = n
number_behind n (k ∷ ks) = number_behind (suc n) ks

abbrev pub moment_behind : Option ℕ → List Connection → Option ℕ
moment_behind m [] = m
moment_behind m (k ∷ ks) = moment_behind (last_told m k.told) ks

number-is : (n : ℕ) (ks : List Connection) → number_behind n ks ≡ n + length ks
number-is n [] = omega arith
number-is n (k ∷ ks) = let h = number-is (suc n) ks in omega (arith, h)

moment-is : (m : Option ℕ) (ks : List Connection) → moment_behind m ks ≡ last_told m (told_of ks)
moment-is m [] = refl
moment-is m (k ∷ ks) = moment-is (last_told m k.told) ks ∙ sym (last_told-append m k.told (told_of ks))

module _ (r : Rules) (per n : ℕ) (s t : State) (es : Log) (ms : List ℕ) (x : Sofar r per n s t es ms) where
  pub number_now : number_behind 1 x.all ≡ suc n
  number_now = let e = number-is 1 x.all in let c = x.count in omega (arith, e, c)

  pub number_all : suc n ≡ suc (length x.all)
  number_all = ap suc (sym x.count)

  pub moment_now : (k : Connection) (ns : List ℕ) → ns ≡ k.told
      → last_told (moment_behind None x.all) k.told ≡ last_told None (ms ++ ns)
  moment_now k ns e = ap (λ (m : Option ℕ). last_told m k.told)
      (moment-is None x.all ∙ ap (last_told None) (sym x.moments))
      ∙ sym (last_told-append None ms k.told) ∙ ap (λ (ls : List ℕ). last_told None (ms ++ ls)) (sym e)

-- ---- one after another

-- one more was served
pub serves_one_more : (r : Rules) (per n : ℕ) (m : Option ℕ) (ks : List Connection) (s t u : State)
    (k : Connection) → ServesAll r per n m s ks t → Serves r per t k u
    → (r.between (number_behind n ks) (last_told (moment_behind m ks) k.told) u).lacks ≡ None
    → ServesAll r per n m s (ks ++ k ∷ [])
    (after_own r (number_behind n ks) (last_told (moment_behind m ks) k.told) u)
serves_one_more r per n m [] s t u k e one enough = (u, subst_state one, enough, refl)
  where
    subst_state : Serves r per t k u → Serves r per s k u
    subst_state x = subst (λ (v : State). Serves r per v k u) e x
serves_one_more r per n m (j ∷ ks) s t u k all one enough = (
  all.0,
  all.1,
  all.2,
  serves_one_more r per (suc n) (last_told m j.told) ks
      (after_own r n (last_told m j.told) all.0) t u k all.3 one enough,
)

-- the state after them
pub all_state : (r : Rules) (per n : ℕ) (m : Option ℕ) (ks : List Connection) (s t : State)
    → ServesAll r per n m s ks t → t ≡ after_all r per n m s ks
all_state r per n m [] s t e = e
all_state r per n m (k ∷ ks) s t all =
    all_state r per (suc n) (last_told m k.told) ks (after_own r n (last_told m k.told) all.0) t all.3
    ∙ ap (λ (v : State). after_all r per (suc n) (last_told m k.told)
    (after_own r n (last_told m k.told) v) ks) all.1.does.state

unfoldable pub sofar_none : (r : Rules) (per : ℕ) (s : State) → Sofar r per 0 s s [] []
sofar_none r per s = record { all = []; count = refl; made = refl; moments = refl; each = refl }

-- one more, and then the server made its own requests behind it
unfoldable pub sofar_more : (r : Rules) (per n : ℕ) (s t u : State) (es fs : Log) (ms ns : List ℕ)
    → Sofar r per n s t es ms → ConnectionComes r per true t u fs ns
    → (r.between (suc n) (last_told None (ms ++ ns)) u).lacks ≡ None
    → Sofar r per (n + 1) s (after_own r (suc n) (last_told None (ms ++ ns)) u) (es ++ fs) (ms ++ ns)
sofar_more r per n s t u es fs ms ns a b enough =
    let k = b.0 in
    let number = number_now r per n s t es ms a in
    let moment = moment_now r per n s t es ms a k ns b.3 in record {
      all = a.all ++ k ∷ [];
      count = let l = length-append a.all (k ∷ []) in let m = a.count in omega (arith, l, m);
      made = ap (λ (l : Log). l ++ fs) a.made ∙ ap (λ (l : Log). connection_entries a.all ++ l)
          (b.2 ∙ sym (append-nil (entry k.moment k.clocked accepted ∷ k.entries)))
          ∙ sym (entries-append a.all (k ∷ []));
      moments = ap (λ (l : List ℕ). l ++ ns) a.moments ∙ ap (λ (l : List ℕ). told_of a.all ++ l)
          (b.3 ∙ sym (append-nil k.told)) ∙ sym (told-append a.all (k ∷ []));
      each = subst (λ (v : State). ServesAll r per 1 None s (a.all ++ k ∷ []) v)
          (ap (λ (i : ℕ). after_own r i (last_told (moment_behind None a.all) k.told) u) number
          ∙ ap (λ (m : Option ℕ). after_own r (suc n) m u) moment)
          (serves_one_more r per 1 None a.all s t u k a.each b.1
          (ap (λ (i : ℕ). (r.between i (last_told (moment_behind None a.all) k.told) u).lacks) number
          ∙ ap (λ (m : Option ℕ). (r.between (suc n) m u).lacks) moment ∙ enough));
    }

-- as many as there were to be
unfoldable pub served_all : (r : Rules) (per n : ℕ) (s t : State) (es : Log) (ms : List ℕ)
    → Sofar r per n s t es ms → Served r per n s t es ms
served_all r per n s t es ms a = record {
  all = a.all;
  last = [];
  made = a.made ∙ sym (append-nil (connection_entries a.all));
  moments = a.moments;
  each = a.each;
  state = all_state r per 1 None a.all s t a.each;
  ends = inl (a.count, refl);
}

-- or fewer, since none came any more
unfoldable pub served_fewer : (r : Rules) (per n count : ℕ) (s t u : State) (es fs : Log) (ms ns : List ℕ)
    → n < count → Sofar r per n s t es ms → ConnectionComes r per false t u fs ns
    → Served r per count s u (es ++ fs) (ms ++ ns)
served_fewer r per n count s t u es fs ms ns few a b =
    let same : u ≡ t = b.0 in record {
      all = a.all;
      last = fs;
      made = ap (λ (l : Log). l ++ fs) a.made;
      moments = ap (λ (l : List ℕ). ms ++ l) b.2 ∙ append-nil ms ∙ a.moments;
      each = subst (λ (v : State). ServesAll r per 1 None s a.all v) (sym same) a.each;
      state = same ∙ all_state r per 1 None a.all s t a.each;
      ends = inr (let m = a.count in omega (arith, m, few), b.1);
    }

-- a connection broke off, or the wait for one failed
unfoldable pub served_some : (r : Rules) (per n count : ℕ) (fault : RunFault) (next : ℕ) (s t : State) (es fs : Log)
    (ms ns : List ℕ) → n < count → Sofar r per n s t es ms → ComesSome r per fault (reach next ms) t fs ns
    → ServedSome r per count fault next s (es ++ fs) (ms ++ ns)
served_some r per n count fault next s t es fs ms ns few a (inl none) = record {
  all = a.all;
  halfway = t;
  each = a.each;
  last = [];
  made = ap (λ (l : Log). l ++ fs) a.made ∙ ap (λ (l : Log). connection_entries a.all ++ l) none.0;
  moments = ap (λ (l : List ℕ). l ++ ns) a.moments ∙ ap (λ (l : List ℕ). told_of a.all ++ l) none.1;
  some = inl (refl, none.2);
  most = let m = a.count in omega (arith, m, few);
}
served_some r per n count fault next s t es fs ms ns few a (inr one) =
    let k = one.0 in record {
      all = a.all;
      halfway = t;
      each = a.each;
      last = k ∷ [];
      made = ap (λ (l : Log). l ++ fs) a.made ∙ ap (λ (l : Log). connection_entries a.all ++ l)
          (one.2 ∙ sym (append-nil (entry k.moment k.clocked accepted ∷ k.entries)));
      moments = ap (λ (l : List ℕ). l ++ ns) a.moments ∙ ap (λ (l : List ℕ). told_of a.all ++ l)
          (one.3 ∙ sym (append-nil k.told));
      some = inr (inl (
        k,
        refl,
        subst (λ (ls : List ℕ). ConnectionBreaksOff r per fault (reach next ls) t k) a.moments one.1,
      ));
      most = let m = a.count in omega (arith, m, few);
    }

-- or what the server does by itself behind one
unfoldable pub served_between : (r : Rules) (per n count : ℕ) (fault : RunFault) (next : ℕ) (s t u : State)
    (es fs : Log) (ms ns : List ℕ) → n < count → Sofar r per n s t es ms → ConnectionComes r per true t u fs ns
    → BetweenNot (reach next (ms ++ ns)) (r.between (suc n) (last_told None (ms ++ ns)) u) fault
    → ServedSome r per count fault next s (es ++ fs) (ms ++ ns)
served_between r per n count fault next s t u es fs ms ns few a b cause =
    let k = b.0 in record {
      all = a.all;
      halfway = t;
      each = a.each;
      last = k ∷ [];
      made = ap (λ (l : Log). l ++ fs) a.made ∙ ap (λ (l : Log). connection_entries a.all ++ l)
          (b.2 ∙ sym (append-nil (entry k.moment k.clocked accepted ∷ k.entries)));
      moments = ap (λ (l : List ℕ). l ++ ns) a.moments ∙ ap (λ (l : List ℕ). told_of a.all ++ l)
          (b.3 ∙ sym (append-nil k.told));
      some = inr (inr (
        k,
        refl,
        record {
          left = u;
          serves = b.1;
          cause = subst (λ (i : ℕ). BetweenNot (reach next (ms ++ ns)) (r.between i (last_told None (ms ++ ns)) u) fault)
              (number_all r per n s t es ms a) cause;
        },
      ));
      most = let m = a.count in omega (arith, m, few);
    }

-- nothing was begun
unfoldable pub served_nothing : (r : Rules) (per count next : ℕ) (s : State) → ServedSome r per count NoMemory next s [] []
served_nothing r per count next s = record {
  all = [];
  halfway = s;
  each = refl;
  last = [];
  made = refl;
  moments = refl;
  some = inl (refl, tt);
  most = omega arith;
}
