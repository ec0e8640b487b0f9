-- The bytes so far are digits, and the number is what they write.
use Rattle.std.proofs.Common.{◌≡◌, ◌≤◌, ◌-◌, ◌<◌, ◌^◌, length, take}
use Rattle.std.specs.Str.Parse.{digits_value, AllDigits}
use Rattle.cactus_text.proofs.scan.leading_number.Given as goal

abbrev pub invariant-digits : goal.invariant-digits
invariant-digits l = record {
  within : l.i ≤ length l.text;
  digits : AllDigits 10 (take l.i l.text);
  value : l.number ≡ digits_value 10 (take l.i l.text);
  small : l.number < 2 ^ 64;
}

abbrev pub decreases-digits : goal.decreases-digits
decreases-digits l = length l.text - l.i
