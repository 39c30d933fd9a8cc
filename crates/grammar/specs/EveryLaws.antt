-- The laws of every grammar, as Laws.antt states them.
use Rattle.grammar.specs.Laws.{ReadIsSpelled, SpelledIsRead, FaultIsFirst, FaultStands, DeepReadIsSpelled, DeepSpelledIsRead, DeepFaultIsFirst}
use Rattle.grammar.specs.AnyDepthLaws.{deep_fault_is_first}
use Rattle.grammar.specs.PlaceLaws.{fault_stands}
use Rattle.grammar.specs.TextLaws.{text_is_spelled, text_is_read, fault_is_first, deep_is_spelled, deep_is_read}

pub read_is_spelled : ReadIsSpelled
read_is_spelled voc productions p A g depth x a z ts = text_is_spelled voc productions g depth x a z ts

pub spelled_is_read : SpelledIsRead
spelled_is_read voc productions p A g depth decided x a z ts = text_is_read voc productions g depth x decided.whole decided.each a z ts

pub first_fault : FaultIsFirst
first_fault voc productions p A g depth decided x before wrong rest fault =
    fault_is_first voc productions g depth x decided.whole decided.each before wrong rest fault

pub fault_has_place : FaultStands
fault_has_place voc productions p A g depth x ts fault rest = fault_stands voc productions g depth x ts (record { fault = fault; rest = rest })

pub deep_read_is_spelled : DeepReadIsSpelled
deep_read_is_spelled voc productions p A g x a z ts = deep_is_spelled voc productions g x a z ts

pub deep_spelled_is_read : DeepSpelledIsRead
deep_spelled_is_read voc productions p A g decided guarded x a z ts = deep_is_read voc productions g x decided.whole decided.each guarded a z ts

pub deep_first_fault : DeepFaultIsFirst
deep_first_fault voc productions p A g decided guarded x before wrong rest fault =
    deep_fault_is_first voc productions guarded g x decided.whole decided.each before wrong rest fault
