-- How a request is read, both ways: each form gives its request, and each request has its form.
use mathlib.Core.Path.{◌≡◌, refl, sym, ap, subst, ◌∙◌}
use mathlib.Core.Bool.{Bool, true, false}
use mathlib.Core.List.{List}
use mathlib.Core.Logic.{◌↔◌, ◌≢◌}
use Prim.Native.Nat.{ℕ, ◌%◌, ◌^◌, ◌≤◌, ◌<◌}
use native.Mathlib.Omega.{arith}
use borrow.Author.Tests.{eq-eqb, ne_eqb, lt-ltb, le-ltb, le-leb, lt-leb, eqb-true, eqb-false, ltb-true, ltb-false}
use lib.Dec.{eqb, ltb, leb}
use lib.ListN.{get_or, length}
use Rattle.std.specs.Prelude.{Result, Ok, Err}
use Rattle.identifiers.specs.Choice.{pick, both}
use Rattle.server.specs.Requests.{service_of, sub_function_of, silencing, mask_of, group_of, sized, form_of_14, form_of_19, form_of_22, form_of_3e, request_by, request_of}
use Rattle.server.specs.Forms.{no_service, short_19, short_3e, unknown_19, unknown_3e, WrongLength, not_4, not_3_of_01, not_3_of_02, not_2_of_0a, under_3, even}
use Rattle.server.specs.Forms.{not_2_of_00, Reads, unknown_service, too_short, unknown_sub_function, wrong_length, clear_group, count_by_mask, list_by_mask, list_all, read_data, tester_present}
use Rattle.server.specs.declared.requests.Request.{Request}
use Rattle.server.specs.declared.requests.Unread.{Unread}

module _ (q : List ℕ) where
  -- the request, by its first byte
  pub read_at : {service : ℕ} → get_or q 0 0 ≡ service → request_of q ≡ request_by service q
  unfolding request_of service_of
  read_at s = ap (λ (n : ℕ). request_by n q) s

  wrong-read : WrongLength q → request_of q ≡ Err Unread.WrongLength
  unfolding request_by form_of_14 form_of_19 form_of_22 form_of_3e sub_function_of sized pick both
  wrong-read (not_4 s n) = read_at s ∙ rw (ne_eqb (length q) 4 n)
  wrong-read (not_3_of_01 s l u n) = let v : get_or q 1 0 % 128 ≡ 0x01 = u in read_at s ∙ rw (le-ltb (length q) 2 l, v, ne_eqb (length q) 3 n)
  wrong-read (not_3_of_02 s l u n) = let v : get_or q 1 0 % 128 ≡ 0x02 = u in read_at s ∙ rw (le-ltb (length q) 2 l, v, ne_eqb (length q) 3 n)
  wrong-read (not_2_of_0a s l u n) = let v : get_or q 1 0 % 128 ≡ 0x0A = u in read_at s ∙ rw (le-ltb (length q) 2 l, v, ne_eqb (length q) 2 n)
  wrong-read (under_3 s l) = read_at s ∙ rw (lt-leb 3 (length q) l)
  wrong-read (even s e) = read_at s ∙ rw e (off (leb 3 (length q)))
    where
      off : (b : Bool) → pick (both b false) (Ok Request.ReadData) (Err Unread.WrongLength) ≡ Err Unread.WrongLength
      off true = refl
      off false = refl
  wrong-read (not_2_of_00 s l u n) = let v : get_or q 1 0 % 128 ≡ 0x00 = u in read_at s ∙ rw (le-ltb (length q) 2 l, v, ne_eqb (length q) 2 n)

  read_as : {r : Result Request Unread} → Reads q r → request_of q ≡ r
  unfolding request_by form_of_14 form_of_19 form_of_22 form_of_3e sub_function_of silencing mask_of group_of sized pick both
  read_as (clear_group s n) = read_at s ∙ rw (eq-eqb (length q) 4 n)
  read_as (count_by_mask s u n) = let v : get_or q 1 0 % 128 ≡ 0x01 = u in read_at s ∙ rw (n, v)
  read_as (list_by_mask s u n) = let v : get_or q 1 0 % 128 ≡ 0x02 = u in read_at s ∙ rw (n, v)
  read_as (list_all s u n) = let v : get_or q 1 0 % 128 ≡ 0x0A = u in read_at s ∙ rw (n, v)
  read_as (read_data s l o) = read_at s ∙ rw (le-leb 3 (length q) l, o)
  read_as (tester_present s u n) = let v : get_or q 1 0 % 128 ≡ 0x00 = u in read_at s ∙ rw (n, v)
  read_as (unknown_service (no_service a b c d)) = read_at refl ∙ rw (ne_eqb (get_or q 0 0) 0x14 a, ne_eqb (get_or q 0 0) 0x19 b, ne_eqb (get_or q 0 0) 0x22 c, ne_eqb (get_or q 0 0) 0x3E d)
  read_as (too_short (short_19 s l)) = read_at s ∙ rw (lt-ltb (length q) 2 l)
  read_as (too_short (short_3e s l)) = read_at s ∙ rw (lt-ltb (length q) 2 l)
  read_as (unknown_sub_function (unknown_19 s l a b c)) = read_at s ∙ rw (le-ltb (length q) 2 l, ne_eqb (get_or q 1 0 % 128) 0x01 a, ne_eqb (get_or q 1 0 % 128) 0x02 b, ne_eqb (get_or q 1 0 % 128) 0x0A c)
  read_as (unknown_sub_function (unknown_3e s l a)) = read_at s ∙ rw (le-ltb (length q) 2 l, ne_eqb (get_or q 1 0 % 128) 0x00 a)
  read_as (wrong_length w) = wrong-read w

  so : {r : Result Request Unread} → Reads q r → Reads q (request_of q)
  so d = subst (Reads q) (sym (read_as d)) d

  -- by a number that is n or is not, and that is below n or is not
  equal : (m n : ℕ) → (m ≡ n → Reads q (request_of q)) → (m ≢ n → Reads q (request_of q)) → Reads q (request_of q)
  equal m n here else = by (eqb m n) refl
    where
      by : (b : Bool) → eqb m n ≡ b → Reads q (request_of q)
      by true e = here (eqb-true _ _ e)
      by false e = else (eqb-false _ _ e)

  below : (m n : ℕ) → (m < n → Reads q (request_of q)) → (n ≤ m → Reads q (request_of q)) → Reads q (request_of q)
  below m n here else = by (ltb m n) refl
    where
      by : (b : Bool) → ltb m n ≡ b → Reads q (request_of q)
      by true e = here (ltb-true _ _ e)
      by false e = else (ltb-false _ _ e)

  sized-as : (n : ℕ) {r : Result Request Unread} → (length q ≡ n → Reads q r) → (length q ≢ n → WrongLength q) → Reads q (request_of q)
  sized-as n right wrong = equal (length q) n (λ e. so (right e)) (λ e. so (wrong_length (wrong e)))

  of-14 : get_or q 0 0 ≡ 0x14 → Reads q (request_of q)
  of-14 s = sized-as 4 (clear_group s) (not_4 s)

  of-19 : get_or q 0 0 ≡ 0x19 → Reads q (request_of q)
  of-19 s =
      below (length q) 2 (λ l. so (too_short (short_19 s l)))
      (λ l. equal (get_or q 1 0 % 2 ^ 7) 0x01 (λ u. sized-as 3 (count_by_mask s u) (not_3_of_01 s l u))
      (λ a. equal (get_or q 1 0 % 2 ^ 7) 0x02 (λ u. sized-as 3 (list_by_mask s u) (not_3_of_02 s l u))
      (λ b. equal (get_or q 1 0 % 2 ^ 7) 0x0A (λ u. sized-as 2 (list_all s u) (not_2_of_0a s l u)) (λ c. so (unknown_sub_function (unknown_19 s l a b c))))))

  of-22 : get_or q 0 0 ≡ 0x22 → Reads q (request_of q)
  of-22 s =
      below (length q) 3 (λ l. so (wrong_length (under_3 s l)))
      (λ l. equal (length q % 2) 1 (λ o. so (read_data s l o)) (λ n. so (wrong_length (even s (omega arith)))))

  of-3E : get_or q 0 0 ≡ 0x3E → Reads q (request_of q)
  of-3E s =
      below (length q) 2 (λ l. so (too_short (short_3e s l)))
      (λ l. equal (get_or q 1 0 % 2 ^ 7) 0x00 (λ u. sized-as 2 (tester_present s u) (not_2_of_00 s l u)) (λ a. so (unknown_sub_function (unknown_3e s l a))))

  pub reads : Reads q (request_of q)
  reads =
      equal (get_or q 0 0) 0x14 of-14
      (λ a. equal (get_or q 0 0) 0x19 of-19
      (λ b. equal (get_or q 0 0) 0x22 of-22
      (λ c. equal (get_or q 0 0) 0x3E of-3E
      (λ d. so (unknown_service (no_service a b c d))))))

  -- each request has one form, and each form one request
  pub reads-exactly : (r : Result Request Unread) → request_of q ≡ r ↔ Reads q r
  reads-exactly r = (λ e. subst (Reads q) e reads, λ d. read_as d)
