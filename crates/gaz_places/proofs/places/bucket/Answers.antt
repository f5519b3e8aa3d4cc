use Rattle.std.proofs.Common.{refl}
use Rattle.gaz_places.specs.Chains.{bucket_of}
use Rattle.gaz_places.proofs.places.bucket.Goals as goal

-- the same product
pub returns-clause-is : goal.returns-clause-is
unfolding bucket_of
returns-clause-is c = refl
