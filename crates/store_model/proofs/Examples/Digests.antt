-- The blobs of the worked examples, under their SHA-256 digests as the definition computes them (FIPS 180-4).
use Rattle.std.proofs.Common.{◌≡◌, true, refl}
use Rattle.std.specs.Prelude.{codes}
use Rattle.hex.specs.Hex.{encode_with}
use Rattle.sha2.specs.Sha256.{sha256, first_words, schedule, rounds, compress, hash_after, digest_bytes}
use Rattle.blob_digest.specs.Digests.{is_digest_of, sha256_text}
use Rattle.spec_lib.specs.Texts.{Text}

-- three bytes, and the digest that FIPS 180-4 gives for them
abbrev pub abc_bytes : Text
abc_bytes = codes "abc"

abbrev pub abc : Text
abc = codes "sha256:ba7816bf8f01cfea414140de5dae2223b00361a396177a9cb410ff61f20015ad"

-- the empty object, and its digest
abbrev pub obj_bytes : Text
obj_bytes = codes "{}"

abbrev pub obj : Text
obj = codes "sha256:44136fa355b3678a1146ad16f7e8649e94fb4fc21fe77e8310c060f61caaff8a"

abc_text : sha256_text abc_bytes ≡ abc
unfolding sha256_text sha256 first_words schedule rounds compress hash_after digest_bytes encode_with
abc_text = refl

obj_text : sha256_text obj_bytes ≡ obj
unfolding sha256_text sha256 first_words schedule rounds compress hash_after digest_bytes encode_with
obj_text = refl

pub abc_named : is_digest_of abc abc_bytes ≡ true
abc_named = rw abc_text refl

pub obj_named : is_digest_of obj obj_bytes ≡ true
obj_named = rw obj_text refl
