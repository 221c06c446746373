use Rattle.std.proofs.Common.{◌≡◌, take}
use Rattle.std.specs.List.{list_any}
use Rattle.std.specs.Prelude.{bytes_eq}
use Rattle.rdx_defs.specs.Inside.FormViews.{keys_of}
use Rattle.rdx_defs.specs.JudgementForms.{key_text}
use Rattle.rdx_defs.proofs.judgements.forms.is_seen.Given as goal

abbrev pub invariant-loop-i : goal.invariant-loop-i
invariant-loop-i l =
    list_any (λ k. bytes_eq k (key_text l.key)) (keys_of (take l.i l.seen)) ≡ list_any (λ k. bytes_eq k (key_text l.key)) (keys_of l.seen)
