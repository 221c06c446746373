-- What is known of splits that are printed.
use Rattle.std.specs.Prelude.{List, IsTrue}
use Rattle.rdx_term.specs.Context.{is_context}
use Rattle.rdx_lang.specs.Decompositions.{Decomposition}
use Rattle.rdx_lang.specs.Members.{In}

-- the context of each is one
abbrev pub HaveContexts : List Decomposition → Type 0
HaveContexts ds = (d : Decomposition) → In d ds → IsTrue (is_context d.context)
