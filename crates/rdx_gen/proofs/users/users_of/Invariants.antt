use Rattle.std.proofs.Common.{◌≡◌, ◌<◌, ℕ, length}
use Rattle.rdx_lang.specs.Checked.{language_in}
use Rattle.rdx_lang.specs.Members.{In}
use Rattle.rdx_gen.specs.Inside.Places.{list_at, lists_of, Mentions}
use Rattle.rdx_gen.proofs.users.users_of.Given as goal

abbrev pub invariant-loop-user : goal.invariant-loop-user
invariant-loop-user l = record {
  size : length l.users.items ≡ length l.definitions.items;
  all : (j i : ℕ) → j < l.user → Mentions (language_in l.nonterminals.language.now) j i → i < length l.definitions.items → In j (list_at (lists_of l.users.items) i);
}
