-- Worked values.
use Rattle.std.proofs.Common.{◌≡◌, refl}
use Rattle.std.specs.Prelude.{◌++◌, codes, replicate, Ok, Err}
use Rattle.std.specs.Str.{is_utf8, chars}
use lib.Utf8.{encode}
use Rattle.gaz_words.specs.declared.parameter.Parameter.TheVariants.{MaxRows}
use Rattle.gaz_words.specs.declared.request.BadRequest.TheVariants as bad
use Rattle.gaz_words.specs.Grammar.{asks_children, asks_chain, asks_admin, request_in}

children_asked_for : request_in (codes "children 5") ≡ Ok (asks_children 5 200)
unfolding request_in is_utf8 chars encode
children_asked_for = refl

some_children_asked_for : request_in (codes "children 5 maxRows=7") ≡ Ok (asks_children 5 7)
unfolding request_in is_utf8 chars encode
some_children_asked_for = refl

no_children_asked_for : request_in (codes "children 5 maxRows=0") ≡ Ok (asks_children 5 0)
unfolding request_in is_utf8 chars encode
no_children_asked_for = refl

most_children_asked_for : request_in (codes "children 5 maxRows=1000") ≡ Ok (asks_children 5 1000)
unfolding request_in is_utf8 chars encode
most_children_asked_for = refl

more_children_than_may_be : request_in (codes "children 5 maxRows=1001") ≡ Err (bad.Value MaxRows)
unfolding request_in is_utf8 chars encode
more_children_than_may_be = refl

number_of_children_that_is_none : request_in (codes "children 5 maxRows=x") ≡ Err (bad.Value MaxRows)
unfolding request_in is_utf8 chars encode
number_of_children_that_is_none = refl

number_of_children_without_a_name : request_in (codes "children 5 7") ≡ Err bad.Parameter
unfolding request_in is_utf8 chars encode
number_of_children_without_a_name = refl

two_spaces_behind_the_id : request_in (codes "children 5  maxRows=7") ≡ Err bad.Parameter
unfolding request_in is_utf8 chars encode
two_spaces_behind_the_id = refl

space_alone_behind_the_id : request_in (codes "children 5 ") ≡ Err bad.Parameter
unfolding request_in is_utf8 chars encode
space_alone_behind_the_id = refl

id_comes_before_the_number_of_children : request_in (codes "children 0 maxRows=x") ≡ Err bad.Id
unfolding request_in is_utf8 chars encode
id_comes_before_the_number_of_children = refl

children_of_none : request_in (codes "children") ≡ Err bad.Id
unfolding request_in is_utf8 chars encode
children_of_none = refl

chain_asked_for : request_in (codes "hierarchy 4294967295") ≡ Ok (asks_chain 4294967295)
unfolding request_in is_utf8 chars encode
chain_asked_for = refl

chain_of_none : request_in (codes "hierarchy") ≡ Err bad.Id
unfolding request_in is_utf8 chars encode
chain_of_none = refl

chain_of_two : request_in (codes "hierarchy 4 5") ≡ Err bad.Id
unfolding request_in is_utf8 chars encode
chain_of_two = refl

admin_code_asked_for : request_in (codes "admin FR.11") ≡ Ok (asks_admin (codes "FR.11"))
unfolding request_in is_utf8 chars encode
admin_code_asked_for = refl

admin_code_with_a_space : request_in (codes "admin a b") ≡ Ok (asks_admin (codes "a b"))
unfolding request_in is_utf8 chars encode
admin_code_with_a_space = refl

admin_code_of_no_byte : request_in (codes "admin ") ≡ Err bad.Code
unfolding request_in is_utf8 chars encode
admin_code_of_no_byte = refl

no_admin_code : request_in (codes "admin") ≡ Err bad.Code
unfolding request_in is_utf8 chars encode
no_admin_code = refl

admin_code_of_128_bytes : request_in (codes "admin " ++ replicate 128 65) ≡ Ok (asks_admin (replicate 128 65))
unfolding request_in is_utf8 chars encode
admin_code_of_128_bytes = refl

admin_code_of_129_bytes : request_in (codes "admin " ++ replicate 129 65) ≡ Err bad.Code
unfolding request_in is_utf8 chars encode
admin_code_of_129_bytes = refl
