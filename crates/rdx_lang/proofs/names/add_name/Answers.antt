use Rattle.std.proofs.Common.{◌≡◌, ◌∙◌, List, ℕ, map, ap}
use Rattle.rdx_lang.specs.Inside.Keys.{names_in}
use Rattle.rdx_lang.specs.Names.{with_name}
use Rattle.rdx_lang.specs.declared.key.Key.{Key}
use Rattle.rdx_lang.proofs.NameSets.{names-inserted}
use Rattle.rdx_lang.proofs.names.add_name.Goals as goal

pub returns : goal.returns
returns c =
    let k = c.new.result in
    let e : k.name ≡ c.args.name.now = c.new.ensures ∙ c.in_ok-share.ensures in
    ap (map (λ (x : Key). x.name)) c.in_ok-insert.ensures.keys ∙ names-inserted c.args.out.now.keys k
    ∙ ap (λ (x : List ℕ). with_name x (names_in c.args.out.now)) e
