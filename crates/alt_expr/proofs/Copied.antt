-- A value is that of its tree.
use Rattle.std.proofs.Common.{◌≡◌, refl, ap, ◌∙◌, sym}
use Rattle.alt_value.specs.declared.attr.Attr.{Attr}
use Rattle.alt_value.specs.declared.attr.Attr.TheVariants as a
use Rattle.alt_value.specs.Stands.{tree_of}
use Rattle.alt_expr.specs.Given.{attr_of}
use Rattle.alt_value.proofs.Trees.{elements-trees_of, pairs-fields_of}

-- no value is lost in its tree
pub attr_of-tree_of : (v : Attr) → attr_of (tree_of v) ≡ v
attr_of-tree_of (a.S s) = refl
attr_of-tree_of (a.N z) = refl
attr_of-tree_of (a.B b) = refl
attr_of-tree_of (a.Bool b) = refl
attr_of-tree_of a.Null = refl
attr_of-tree_of (a.Ss ss) = refl
attr_of-tree_of (a.Ns zs) = refl
attr_of-tree_of (a.Bs bs) = refl
attr_of-tree_of (a.L ts) = ap a.L (elements-trees_of ts)
attr_of-tree_of (a.M ps) = ap a.M (pairs-fields_of ps)

-- a copy of a value is that value
pub same_copy : (v w : Attr) → tree_of v ≡ tree_of w → v ≡ w
same_copy v w e = sym (attr_of-tree_of v) ∙ ap attr_of e ∙ attr_of-tree_of w
