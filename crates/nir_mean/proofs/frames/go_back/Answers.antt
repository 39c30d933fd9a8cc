use Rattle.std.proofs.Common.{◌-◌, refl, sym, ◌∙◌, ap, arith}
use Rattle.nir_ir.specs.Nodes.{nodes_of}
use Rattle.nir_mean.specs.Frames.{outcome_after}
use Rattle.nir_mean.specs.Outcome.{outcome_of}
use Rattle.nir_mean.specs.Seen.{setting_of, shader_of}
use Rattle.nir_mean.proofs.FrameLemmas.{goes_back, resumed-cut, turned-none}
use Rattle.nir_mean.proofs.frames.go_back.Goals as goal

pub returns-then-turn-eq0 : goal.returns-then-turn-eq0
returns-then-turn-eq0 c = λ state.
    sym (ap (outcome_after (setting_of c.args.given.now) c.args.stack.now.items) (turned-none (setting_of c.args.given.now) c.args.turn.left (nodes_of c.args.turn.body.now) c.args.from state (omega arith))
    ∙ ap outcome_of (resumed-cut (setting_of c.args.given.now) c.args.stack.now.items state))

pub returns : goal.returns
returns c = λ state.
    goes_back (shader_of c.args.given.now) (setting_of c.args.given.now) c.args.stack.now.items c.push.new.stack.items c.args.turn (record { body = c.args.turn.body; left = c.args.turn.left - 1 }) c.args.from state
    (omega arith) c.requires.frames c.requires.body refl refl c.in_ok-push.ensures
