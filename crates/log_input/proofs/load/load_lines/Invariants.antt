use Rattle.std.proofs.Common.{◌≡◌, map, drop}
use Rattle.log_input.specs.Loads.{loaded}
use Rattle.log_input.proofs.load.load_lines.Given as goal

-- the lines that are left, put behind those there, give the answer
abbrev pub invariant-loop-line : goal.invariant-loop-line
invariant-loop-line g l =
    (loaded (g.L.LineStore.capacity l.initial.store) (g.L.LineStore.charge l.initial.store) (g.L.LineStore.lines l.store) (drop l.line-index (map (λ x. x.now) l.log)) ≡ loaded (g.L.LineStore.capacity l.initial.store) (g.L.LineStore.charge l.initial.store) (g.L.LineStore.lines l.initial.store) (map (λ x. x.now) l.log))
    × (g.L.LineStore.capacity l.store ≡ g.L.LineStore.capacity l.initial.store)
    × (g.L.LineStore.charge l.store ≡ g.L.LineStore.charge l.initial.store)
