-- What the parts of a list stand for.
use Rattle.std.specs.Prelude.{List, map}
use Rattle.rdx_term.specs.Tree.{Tree, Trees, trees}
use Rattle.rdx_term.specs.View.{tree_of}
use Rattle.rdx_alpha.specs.Instances.{Role, of_head, of_binder, of_plain, of_body}
use Rattle.rdx_alpha.specs.declared.part.Part.{Part}
use Rattle.rdx_alpha.specs.declared.part.Part.TheVariants.{Head, Binder, Plain, Body}

abbrev pub role_of : Part → Role
role_of (Head t) = of_head
role_of (Binder t) = of_binder
role_of (Plain t) = of_plain
role_of (Body names t) = of_body names.items

abbrev pub part_tree : Part → Tree
part_tree (Head t) = tree_of t
part_tree (Binder t) = tree_of t
part_tree (Plain t) = tree_of t
part_tree (Body names t) = tree_of t

abbrev pub roles_of : List Part → List Role
roles_of parts = map role_of parts

abbrev pub part_trees : List Part → Trees
part_trees parts = trees (map part_tree parts)
