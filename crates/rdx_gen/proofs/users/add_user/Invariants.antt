use Rattle.std.proofs.Common.{◌≡◌, ◌<◌, ℕ, length, map, take}
use Rattle.rdx_lang.specs.Checked.{language_in}
use Rattle.rdx_lang.specs.Members.{In}
use Rattle.rdx_lang.specs.declared.pattern.Ref.{Ref}
use Rattle.rdx_gen.specs.Inside.Places.{list_at, lists_of, place_of}
use Rattle.rdx_gen.proofs.users.add_user.Given as goal

abbrev pub invariant-loop-name : goal.invariant-loop-name
invariant-loop-name l = record {
  size : length l.users.items ≡ length l.initial.users.items;
  here : (x : Ref) → In x (map (λ r. r.now) (take l.name-index l.names)) → place_of (language_in l.nonterminals.language.now) x < length l.initial.users.items
      → In l.user (list_at (lists_of l.users.items) (place_of (language_in l.nonterminals.language.now) x));
  kept : (i j : ℕ) → In j (list_at (lists_of l.initial.users.items) i) → In j (list_at (lists_of l.users.items) i);
}
