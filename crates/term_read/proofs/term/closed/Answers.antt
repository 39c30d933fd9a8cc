use Rattle.std.proofs.Common.{◌≡◌, length, refl, sym, ◌∙◌}
use Rattle.nir_ops.specs.Opcodes.{op_info}
use Rattle.rule_term.specs.Lists.{terms_of-app}
use Rattle.term_read.specs.Views.{head_says, here, source}
use Rattle.term_read.proofs.Terms.{closed_reads}
use Rattle.term_read.proofs.term.closed.Goals as goal

pub returns : goal.returns
returns c =
    let reader = c.args.reader.now in
    let args_count = c.len.ensures in
    let same = c.if-len.false in
    let inputs_count = c.len-2.ensures.value in
    let table = c.info.ensures in
    let counts : length c.args.args ≡ length (op_info c.args.head.op).inputs = cc in
    rw (terms_of-app c.args.head.op c.args.head.size c.args.head.once c.args.args)
    (closed_reads (head_says c.args.head) c.args.args (source reader) (here reader.point) (source (record { point = c.next-reader.result; state = reader.state }))
    (sym c.is_mark.ensures ∙ c.if-not-is_mark.false) counts c.next-reader.ensures.text refl c.next-reader.ensures.rest)
