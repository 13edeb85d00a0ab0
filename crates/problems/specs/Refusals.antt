-- The numbers by which refusals are told.
use Rattle.std.specs.Prelude.{ℕ}
use Rattle.problems.specs.declared.refusal.Refusal.{Refusal}
use Rattle.problems.specs.declared.refusal.Refusal.TheVariants.{Length, Quantity, Range, Cross, Repeat, NotNarrower, Full, NumbersGone, NoMark, Budget, Buffer, BytesEnd, Malformed, Unlawful, TooDeep, BytesLeft}

abbrev pub number : Refusal → ℕ
number Length = 1
number Quantity = 2
number Range = 3
number Cross = 4
number Repeat = 5
number NotNarrower = 6
number Full = 7
number NumbersGone = 8
number NoMark = 9
number Budget = 10
number Buffer = 11
number BytesEnd = 12
number Malformed = 13
number Unlawful = 14
number TooDeep = 15
number BytesLeft = 16
