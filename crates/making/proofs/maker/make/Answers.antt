use borrow.Author.Rules.{rules}
use mathlib.Core.Path.{◌≡◌, ◌∙◌}
use Rattle.faults.specs.Faults.{number_of}
use Rattle.making.specs.Making.{refused, said}
use Rattle.making.proofs.Planned.{whole_here, answer-refused, answer-made}
use Rattle.making.proofs.maker.make.Goals as goal

pub write_file-requires : goal.write_file-requires
write_file-requires c = whole_here _ _ _ _ c.in_ok-d.ensures

pub returns-in_err-d : goal.returns-in_err-d
returns-in_err-d c =
    let r = c.in_err-d.field-0.0 in
    let same : said c.from_residual.result ≡ refused (number_of r.fault) r.index = search rules in
    let x = answer-refused _ _ _ c.args.out.now c.in_err-d.ensures in
    record { answer = same ∙ x.0; written = x.1 }

pub returns : goal.returns
returns c =
    let x = answer-made _ _ _ _ c.in_ok-d.ensures c.length.ensures c.write_file.ensures.written in
    record { answer = x.0; written = x.1 }
