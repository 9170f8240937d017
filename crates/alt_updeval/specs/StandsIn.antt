-- Values that stand in for others, where it is known that an item with these is too large, and they needn't be copied.
use Rattle.std.specs.Prelude.{◌≡◌, ◌≤◌, ℕ, zero, suc, nat_le, if◌then◌else◌, List, [], ◌∷◌, length, Option, Some, None}
use Rattle.alt_value.specs.Size.{depth, size}
use Rattle.alt_value.specs.Tree.{Tree, S_tree, N_tree, B_tree, NULL_tree, L_tree, no_trees, tree_then}
use Rattle.alt_expr.specs.Updated.{Edit}

-- the length of the longest key, in bytes (Developer Guide, "Service, account, and table quotas")
abbrev pub longest_key : ℕ
longest_key = 2048

-- a value that may be a key: a number, or a text or a binary that isn't longer than the longest key
abbrev pub as_key : Tree → Option Tree
as_key (S_tree s) = if nat_le (length s) longest_key then Some (S_tree s) else None
as_key (N_tree z) = Some (N_tree z)
as_key (B_tree b) = if nat_le (length b) longest_key then Some (B_tree b) else None
as_key t = None

-- One value stands in for another: it is as deep and no larger, and the same where that may be a key.
pub record StandsIn (t u : Tree) : Type 0 where
  pub as_deep : depth t ≡ depth u
  pub no_larger : size t ≤ size u
  pub same_key : as_key t ≡ as_key u

-- so for two values that may be missing: both are there, or none
abbrev pub StandsInIf : Option Tree → Option Tree → Type 0
StandsInIf None None = Unit {0}
StandsInIf (Some t) (Some u) = StandsIn t u
StandsInIf o p = ⊥

-- the members of two lists are related, one by one
abbrev pub EachOfTwo : {A : Type 0} → (A → A → Type 0) → List A → List A → Type 0
EachOfTwo R [] [] = Unit {0}
EachOfTwo R (x ∷ xs) (y ∷ ys) = R x y × EachOfTwo R xs ys
EachOfTwo R xs ys = ⊥

-- two pairs of one name, or of one index, whose values stand in for one another
abbrev pub StandsInAt : {K : Type 0} → K × Tree → K × Tree → Type 0
StandsInAt p q = (p.0 ≡ q.0) × StandsIn p.1 q.1

-- two edits of one place
abbrev pub StandsInEdit : Edit → Edit → Type 0
StandsInEdit e f = (e.0 ≡ f.0) × StandsInIf e.1 f.1

-- so many lists in one another, about a null
abbrev pub nest : ℕ → Tree
nest zero = NULL_tree
nest (suc n) = L_tree (tree_then (nest n) no_trees)
