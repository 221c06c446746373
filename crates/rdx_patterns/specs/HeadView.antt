-- The heads and roles that values of the code stand for.
use Rattle.rdx_patterns.specs.Heads.{Head, naming, avoiding, prefixing, splitting, hiding, crossing, escaping, plain, Role, word, bound, spelt, pattern, ellipsis, unread, Roles, done, item, every, patterns, repeatable}
use Rattle.rdx_patterns.specs.declared.patterns.heads.Head as code_head
use Rattle.rdx_patterns.specs.declared.patterns.heads.Head.TheVariants as heads
use Rattle.rdx_patterns.specs.declared.patterns.heads.Role as code_role
use Rattle.rdx_patterns.specs.declared.patterns.heads.Role.TheVariants as roles
use Rattle.rdx_patterns.specs.declared.patterns.heads.Roles as code_roles
use Rattle.rdx_patterns.specs.declared.patterns.heads.Roles.TheVariants as rows

-- what a head of the code is
abbrev pub head_view : code_head.Head → Head
head_view heads.Naming = naming
head_view heads.Avoiding = avoiding
head_view heads.Prefixing = prefixing
head_view heads.Splitting = splitting
head_view heads.Hiding = hiding
head_view heads.Crossing = crossing
head_view heads.Escaping = escaping
head_view heads.Plain = plain

-- what a role of the code is
abbrev pub role_view : code_role.Role → Role
role_view roles.Word = word
role_view roles.Bound = bound
role_view roles.Spelt = spelt
role_view roles.Pattern = pattern
role_view roles.Ellipsis = ellipsis
role_view roles.Unread = unread

-- what several roles of the code are
abbrev pub roles_view : code_roles.Roles → Roles
roles_view rows.Done = done
roles_view (rows.One r) = item (role_view r) done
roles_view (rows.Two r q) = item (role_view r) (item (role_view q) done)
roles_view (rows.Three r q p) = item (role_view r) (item (role_view q) (item (role_view p) done))
roles_view (rows.Every r) = every (role_view r)
roles_view (rows.OneAndEvery r q) = item (role_view r) (every (role_view q))
roles_view rows.Patterns = patterns
roles_view rows.Repeatable = repeatable
