-- That two replies are equal in one way at most, by a code of replies. Nothing here is of the subject.
use Rattle.std.specs.Prelude.{◌≡◌, ℕ, zero, suc, List, [], ◌∷◌, Option, Some, None, refl}
use Rattle.std.specs.Coded.{Coded, Coded-set, code_by}
use Rattle.rdx_term.specs.Tree.{Tree, Contents}
use Rattle.rdx_term.specs.Model.Tokens.{coded_contents}
use Rattle.rdx_delta.specs.Reply.{Reply, value, host_domain, overflow, divide_by_zero}

-- a reply as what a list holds: the value as its one item, and the other replies by its mark
abbrev to_contents : Reply → Contents
to_contents (value t) = record { mark = None; items = t ∷ [] }
to_contents host_domain = record { mark = Some 0; items = [] }
to_contents overflow = record { mark = Some 1; items = [] }
to_contents divide_by_zero = record { mark = Some 2; items = [] }

-- the reply other than a value, by the mark
abbrev from_mark : Option ℕ → Reply
from_mark None = host_domain
from_mark (Some zero) = host_domain
from_mark (Some (suc zero)) = overflow
from_mark (Some (suc (suc k))) = divide_by_zero

-- the reply, by the mark and the items
abbrev from_items : Option ℕ → List Tree → Reply
from_items m [] = from_mark m
from_items m (t ∷ ts) = value t

-- the reply again
abbrev from_contents : Contents → Reply
from_contents c = from_items c.mark c.items

-- it is the same as before
from-to_contents : (r : Reply) → from_contents (to_contents r) ≡ r
from-to_contents (value t) = refl
from-to_contents host_domain = refl
from-to_contents overflow = refl
from-to_contents divide_by_zero = refl

-- the code of a reply
abbrev coded_reply : Coded Reply
coded_reply = code_by Contents coded_contents to_contents from_contents from-to_contents

-- two replies are equal in one way at most
pub Reply-set : (r s : Reply) → IsProp (r ≡ s)
Reply-set r s = Coded-set coded_reply r s
