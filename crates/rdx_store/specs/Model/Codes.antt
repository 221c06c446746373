-- Lists of trees are told apart as what a list without a mark holds is.
use Rattle.std.specs.Prelude.{List, None, refl}
use Rattle.std.specs.Coded.{Coded, code_by}
use Rattle.rdx_term.specs.Model.Tokens.{coded_contents}
use Rattle.rdx_term.specs.Tree.{Tree, Contents}

-- the code of a list of trees
abbrev pub coded_trees : Coded (List Tree)
coded_trees = code_by Contents coded_contents (λ ts. record { mark = None; items = ts }) (λ l. l.items) (λ _. refl)
