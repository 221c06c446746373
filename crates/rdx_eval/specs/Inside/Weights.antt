-- How much is still to be done, at most, while a template is made. An ellipsis takes fewer than 2 ^ 64 turns, since they are counted so.
use Rattle.std.specs.Prelude.{ℕ, suc, ◌+◌, ◌*◌, ◌-◌, List, [], ◌∷◌}
use Rattle.rdx_lang.specs.Templates.{Template, lit, var, fill, call, host, seq, Items, nil, one, many, Host, term, number, boolean, apply, both, either, Hosts, none, more}
use Rattle.rdx_lang.specs.TemplateView.{template_of, host_of}
use Rattle.rdx_eval.specs.Inside.Parts.{items_in, hosts_in}
use Rattle.rdx_eval.specs.declared.frames.Frame.{Frame}
use Rattle.rdx_eval.specs.declared.frames.Frame.TheVariants as frames
use Rattle.rdx_eval.specs.declared.frames.Next.{Next}
use Rattle.rdx_eval.specs.declared.frames.Next.TheVariants as nexts

abbrev mutual
  -- of a template
  pub weight : Template → ℕ
  weight (lit t) = 1
  weight (var x d) = 1
  weight (fill c t) = weight c + weight t + 3
  weight (call f ts) = items_weight ts + 3
  weight (host h) = host_weight h + 1
  weight (seq ts) = items_weight ts + 3

  -- of items
  pub items_weight : Items → ℕ
  items_weight nil = 0
  items_weight (one t ts) = weight t + items_weight ts + 2
  items_weight (many t ts) = 18446744073709551616 * (weight t + 1) + items_weight ts + 2

  -- of a host expression
  pub host_weight : Host → ℕ
  host_weight (term t) = weight t + 1
  host_weight (number n) = 1
  host_weight (boolean v) = 1
  host_weight (apply op hs) = hosts_weight hs + 2
  host_weight (both hs) = hosts_weight hs + 2
  host_weight (either hs) = hosts_weight hs + 2

  -- of host expressions
  pub hosts_weight : Hosts → ℕ
  hosts_weight none = 0
  hosts_weight (more h hs) = host_weight h + hosts_weight hs + 2

-- of what is done next
abbrev pub next_weight : Next → ℕ
next_weight (nexts.Make t) = weight (template_of t.now)
next_weight (nexts.Host h) = host_weight (host_of h.now)
next_weight (nexts.Row w) = items_weight (items_in w.rest.now) + 2
next_weight (nexts.Arguments op us hs) = hosts_weight (hosts_in hs.now) + 1
next_weight (nexts.And u hs) = hosts_weight (hosts_in hs.now) + 1
next_weight (nexts.Or hs) = hosts_weight (hosts_in hs.now) + 1
next_weight (nexts.Call f a) = 1
next_weight (nexts.Made t) = 0

-- of the turns behind the i-th of n, and of what comes behind them
abbrev pub turns_weight : Template → Items → ℕ → ℕ → ℕ
turns_weight t ts i n = (n - suc i) * (weight t + 1) + (items_weight ts + 3)

-- of a frame
abbrev pub frame_weight : Frame → ℕ
frame_weight (frames.Context p) = weight (template_of p.now) + 2
frame_weight (frames.Part c) = 1
frame_weight (frames.Item w) = items_weight (items_in w.rest.now) + 3
frame_weight (frames.Turn k) = turns_weight (template_of k.template.now) (items_in k.row.rest.now) k.turn k.times
frame_weight (frames.Argument op us hs) = hosts_weight (hosts_in hs.now) + 2
frame_weight (frames.And hs) = hosts_weight (hosts_in hs.now) + 2
frame_weight (frames.Or hs) = hosts_weight (hosts_in hs.now) + 2

-- of frames
abbrev pub frames_weight : List Frame → ℕ
frames_weight [] = 0
frames_weight (w ∷ ws) = frame_weight w + frames_weight ws
