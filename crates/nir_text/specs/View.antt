-- The signs of the code as the grammar sees them.
use Rattle.nir_text.specs.declared.sign.Sign as code
use Rattle.nir_text.specs.declared.point.Point as code_point
use Rattle.nir_text.specs.Signs.{Sign, signs_of}
use Rattle.nir_text.specs.Reading.{Point}

abbrev pub sign : code.Sign → Sign
sign s = record { kind = s.kind; text = s.text.now; place = s.place }

abbrev pub point : code_point.Point → Point
point p = record { rest = signs_of p.text.now p.tokens.now; counts = p.counts }
